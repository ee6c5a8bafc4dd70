pub mod theory
pub mod OneResult
