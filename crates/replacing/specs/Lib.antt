pub mod Replaced
pub mod theory
pub mod Examples
