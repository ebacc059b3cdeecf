pub mod Tests
pub mod Rules
pub mod Loading
pub mod Ends
pub mod Laws
pub mod Tested
