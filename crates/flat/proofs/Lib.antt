pub mod Fills
pub mod Slotted
pub mod Clipped
pub mod Scans
pub mod Outermost
pub mod Made
pub mod Found
pub mod Cutting
