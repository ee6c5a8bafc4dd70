pub mod Listing
pub mod Examples
