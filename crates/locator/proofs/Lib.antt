pub mod Bracket
pub mod Around
