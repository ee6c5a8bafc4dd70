pub mod Solstices
pub mod Found
