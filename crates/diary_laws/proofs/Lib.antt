pub mod shards
pub mod merges
pub mod worlds
pub mod runs
pub mod holding
pub mod worked
pub mod refused
