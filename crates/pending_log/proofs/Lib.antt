pub mod Places
pub mod Identities
pub mod Removal
pub mod Rings
