pub mod Changes
pub mod Seated
pub mod Waiting
