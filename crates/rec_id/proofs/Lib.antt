pub mod MarkBits
pub mod Slices
