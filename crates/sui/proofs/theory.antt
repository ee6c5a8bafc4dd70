pub mod Answered
pub mod Apart
pub mod Eves
pub mod Found
pub mod Solstices
pub mod Speed
