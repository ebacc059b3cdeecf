pub mod Run
pub mod Law
pub mod Sizes
pub mod Words
