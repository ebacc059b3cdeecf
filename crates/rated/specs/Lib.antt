pub mod Rates
pub mod Loading
pub mod Measures
pub mod Ends
pub mod Laws
pub mod Replaced
pub mod Relaxed
