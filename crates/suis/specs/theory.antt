pub mod Counted
pub mod Window
pub mod Lookups
pub mod Next
pub mod Begun
pub mod Within
pub mod Each
pub mod Zhongqi
