pub mod Known
pub mod Span
pub mod Steps
pub mod Refused
