pub mod Ranks
pub mod Parts
pub mod Going
pub mod Crashes
pub mod Unique
pub mod Keys
