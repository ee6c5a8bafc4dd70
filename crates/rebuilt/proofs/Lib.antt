pub mod Theorems
pub mod theory
