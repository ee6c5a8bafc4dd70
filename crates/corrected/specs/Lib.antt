pub mod Shared
pub mod theory
pub mod Examples
