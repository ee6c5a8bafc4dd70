pub mod Inputs
pub mod Known
pub mod theory
pub mod Examples
