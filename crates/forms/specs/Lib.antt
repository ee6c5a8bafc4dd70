pub mod Forms
pub mod OneResult
