pub mod Polynomials
pub mod Segment
pub mod EndValues
pub mod Examples
