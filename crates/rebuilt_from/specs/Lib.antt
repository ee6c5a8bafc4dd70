pub mod RebuiltFrom
pub mod theory
pub mod OneResult
pub mod Examples
