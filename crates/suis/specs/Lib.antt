pub mod Ahead
pub mod theory
