pub mod Floor
pub mod Division
