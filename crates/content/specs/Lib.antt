pub mod Content
pub mod Steps
pub mod theory
