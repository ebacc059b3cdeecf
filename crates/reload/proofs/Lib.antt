pub mod Drawing
pub mod Fills
pub mod Counting
pub mod Asked
