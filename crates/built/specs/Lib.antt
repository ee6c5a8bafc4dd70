pub mod Build
pub mod theory
pub mod Theorems
pub mod Zones
pub mod Examples
