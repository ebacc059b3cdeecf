pub mod Refusals
pub mod Sizes
pub mod WindowSets
pub mod Schedules
pub mod Hulls
pub mod Filling
pub mod Halves
