pub mod Rows
pub mod Stores
pub mod Doors
pub mod Waiting
