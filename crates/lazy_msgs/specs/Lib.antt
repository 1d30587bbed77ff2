pub mod Refused
pub mod Weight
pub mod Outbox
pub mod Step
pub mod Frame
pub mod FrameLimits
