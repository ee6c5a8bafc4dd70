pub mod Begun
pub mod Kept
