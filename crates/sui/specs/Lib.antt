pub mod Sui
pub mod Examples
pub mod theory
