pub mod Parts
pub mod Compared
pub mod Shifted
pub mod Judged
pub mod Values
pub mod Kept
