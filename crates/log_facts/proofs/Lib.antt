pub mod Places
pub mod Identities
pub mod growth
pub mod worlds
pub mod lines
pub mod promises
pub mod telling
