-- The sizes of what each role has and sends.
pub mod Sends
pub mod Client
pub mod Windows
pub mod Reader
pub mod Control
pub mod Flight
pub mod Seq
pub mod Store
pub mod Pushing
pub mod Shard
pub mod All
pub mod Door
pub mod Fits
pub mod Sent
