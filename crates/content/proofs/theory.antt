pub mod Walk
pub mod Judged
