pub mod WalkIsFinder
