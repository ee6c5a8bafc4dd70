pub mod Early
pub mod Converted
pub mod First
pub mod OneDay
