pub mod Stages
pub mod Flushes
pub mod Replaced
