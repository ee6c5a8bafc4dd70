pub mod Listed
pub mod Starred
pub mod Worked
