pub mod Written
pub mod Copied
pub mod Judging
pub mod Over
pub mod Entry
