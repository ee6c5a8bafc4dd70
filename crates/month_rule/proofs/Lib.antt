pub mod Counted
mod Firsts
