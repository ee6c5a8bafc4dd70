pub mod Placed
pub mod Put
pub mod Cases
