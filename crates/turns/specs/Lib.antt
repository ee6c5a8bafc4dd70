pub mod theory
pub mod Turns
pub mod Listed
pub mod Searched
