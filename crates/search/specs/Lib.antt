pub mod Table
pub mod Held
pub mod Promises
pub mod Left
