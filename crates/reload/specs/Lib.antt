pub mod Loads
pub mod Rules
pub mod Loading
pub mod Laws
pub mod Orders
pub mod Settled
pub mod Held
pub mod Tables
