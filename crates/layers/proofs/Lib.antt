pub mod Settling
pub mod Slacking
