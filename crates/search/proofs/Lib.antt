pub mod Tables
pub mod Cuts
pub mod Goings
