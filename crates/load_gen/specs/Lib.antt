pub mod Nodes
pub mod Schedule
pub mod Loading
pub mod Counting
pub mod Summary
