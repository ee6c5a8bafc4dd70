pub mod Time
pub mod Sky
pub mod File
pub mod Suis
