pub mod Entries
pub mod Narrowings
