pub mod Names
pub mod BrokenBy
pub mod Precedes
pub mod Told
