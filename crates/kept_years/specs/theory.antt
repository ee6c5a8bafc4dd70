pub mod Among
pub mod Putting
pub mod Listed
