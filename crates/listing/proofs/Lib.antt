pub mod Budgets
pub mod Reached
pub mod Readings
pub mod Truths
