pub mod Examples
pub mod Theorems
pub mod theory
