-- Who sends what to whom: the rows of each role.
pub mod Sends
pub mod WithoutNamed
pub mod Client
pub mod Reader
pub mod Control
pub mod Flight
pub mod Seq
pub mod Pushing
pub mod Shard
pub mod All
pub mod Lost
