pub mod Put
pub mod Stored
pub mod Answered
pub mod Walk
pub mod File
pub mod Count
