pub mod Handles
pub mod Months
pub mod Limits
pub mod Answers
pub mod Examples
