pub mod Judged
pub mod Walk
