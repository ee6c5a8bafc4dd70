pub mod Records
pub mod OneResult
pub mod Theorems
pub mod Examples
