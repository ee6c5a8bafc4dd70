pub mod Begin
pub mod theory
pub mod Examples
