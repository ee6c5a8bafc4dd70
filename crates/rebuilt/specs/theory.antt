pub mod Records
pub mod Given
