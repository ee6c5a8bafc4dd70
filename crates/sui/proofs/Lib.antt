pub mod Theorems
pub mod Zones
pub mod theory
