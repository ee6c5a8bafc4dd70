pub mod Visits
pub mod theory
