pub mod Fields
pub mod Layout
pub mod Answers
pub mod theory
pub mod Theorems
pub mod OneResult
pub mod Examples
