pub mod Orders
pub mod Fronts
pub mod Keyed
