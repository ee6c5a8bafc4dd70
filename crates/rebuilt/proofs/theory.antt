pub mod Kept
pub mod Listed
