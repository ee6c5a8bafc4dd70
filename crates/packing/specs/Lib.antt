pub mod Reading
pub mod Packing
pub mod Decimal
pub mod Theorems
pub mod OneResult
pub mod Examples
pub mod Passes
pub mod theory
