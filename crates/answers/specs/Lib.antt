pub mod Record
pub mod Months
pub mod Fits
pub mod Theorems
pub mod Examples
pub mod Said
pub mod Sayable
