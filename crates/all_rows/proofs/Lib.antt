pub mod Rows
pub mod Telling
pub mod HandedOn
pub mod Everywhere
pub mod Posted
