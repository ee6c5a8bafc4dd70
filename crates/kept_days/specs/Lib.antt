pub mod KeptDays
pub mod Examples
