pub mod Served
pub mod OneResult
pub mod Examples
