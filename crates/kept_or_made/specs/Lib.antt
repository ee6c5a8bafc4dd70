pub mod Again
pub mod OldDays
pub mod theory
