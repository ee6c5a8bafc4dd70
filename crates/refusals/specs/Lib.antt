pub mod Verdict
pub mod Search
pub mod Evaluated
pub mod Lent
