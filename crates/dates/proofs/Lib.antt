pub mod Order
pub mod Theorems
pub mod theory
