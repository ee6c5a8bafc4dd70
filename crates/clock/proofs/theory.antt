pub mod Around
pub mod Counts
pub mod Inserted
pub mod Judged
pub mod Shown
pub mod Sizes
pub mod Table
pub mod Used
