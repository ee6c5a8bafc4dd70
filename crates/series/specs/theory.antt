pub mod Kept
pub mod Place
