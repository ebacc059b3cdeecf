pub mod Loads
pub mod Pricing
pub mod Forcing
pub mod Scanned
pub mod Cutting
