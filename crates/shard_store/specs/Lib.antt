pub mod Kinds
pub mod Links
pub mod Places
pub mod Holding
pub mod Settling
pub mod Sound
