pub mod Orders
pub mod Stores
pub mod Pushes
pub mod Rows
