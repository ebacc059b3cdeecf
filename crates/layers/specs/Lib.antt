pub mod Layers
pub mod Laws
pub mod Weights
pub mod Pairing
pub mod Rounding
pub mod Slacks
pub mod Weighing
