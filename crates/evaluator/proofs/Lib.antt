pub mod Shifted
pub mod Read
pub mod Turn
pub mod Fall
pub mod Running
