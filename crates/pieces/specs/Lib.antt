pub mod Pieces
pub mod theory
pub mod Examples
