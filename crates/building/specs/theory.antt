pub mod Cases
pub mod Blamed
