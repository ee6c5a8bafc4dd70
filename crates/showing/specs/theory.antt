pub mod Widths
pub mod Dated
pub mod Putting
pub mod Reading
