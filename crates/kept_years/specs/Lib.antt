pub mod KeptYears
pub mod Answers
pub mod OneResult
pub mod Theorems
pub mod Examples
pub mod theory
