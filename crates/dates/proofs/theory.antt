pub mod Days
pub mod Judged
pub mod Months
pub mod Next
pub mod Sizes
pub mod Years
