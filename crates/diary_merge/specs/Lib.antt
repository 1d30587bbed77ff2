pub mod Weights
pub mod Acts
pub mod Numbering
pub mod Merging
