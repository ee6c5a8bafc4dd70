pub mod Theorems
pub mod Pieces
pub mod theory
