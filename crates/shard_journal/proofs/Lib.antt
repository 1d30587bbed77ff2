pub mod Bodies
pub mod Files
mod Scans
mod NextBlocks
mod Adding
