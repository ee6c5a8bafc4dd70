pub mod Calendar
pub mod Answers
pub mod Examples
pub mod OneResult
