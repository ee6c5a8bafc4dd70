pub mod Rebuild
pub mod theory
pub mod Theorems
pub mod Examples
