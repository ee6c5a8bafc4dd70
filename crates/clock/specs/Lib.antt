pub mod Leap
pub mod Clock
pub mod Order
pub mod Answers
pub mod Examples
pub mod OneResult
