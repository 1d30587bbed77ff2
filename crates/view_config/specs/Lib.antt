pub mod Limits
pub mod Nodes
pub mod Shape
pub mod Config
pub mod Without
pub mod Role
