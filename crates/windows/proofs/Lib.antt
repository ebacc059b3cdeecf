pub mod Fills
pub mod Lying
pub mod Members
pub mod Hulls
pub mod Least
pub mod Enumerated
pub mod Held
pub mod Halving
