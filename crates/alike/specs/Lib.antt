pub mod Alike
pub mod Runs
pub mod theory
