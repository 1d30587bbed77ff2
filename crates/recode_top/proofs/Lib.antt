pub mod Texts
pub mod Outputs
pub mod LineOutput
pub mod Far
pub mod Ends
pub mod Steps
