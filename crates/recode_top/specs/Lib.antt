pub mod Output
pub mod Recoding
