pub mod Marks
pub mod Crossings
pub mod Listed
pub mod Words
pub mod Stretch
pub mod Answers
pub mod OneResult
