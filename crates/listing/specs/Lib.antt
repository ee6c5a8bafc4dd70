pub mod Parts
pub mod Lines
pub mod OneResult
pub mod theory
