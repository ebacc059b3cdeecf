pub mod Feasible
pub mod Charges
pub mod Turns
pub mod Held
