pub mod Machines
pub mod Formed
pub mod Closed
pub mod Merges
pub mod Nodes
pub mod Lived
pub mod Snapshots
