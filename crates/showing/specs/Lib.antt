pub mod Shown
pub mod Rows
pub mod Answers
pub mod OneResult
pub mod Columns
pub mod Sizes
pub mod Examples
pub mod theory
