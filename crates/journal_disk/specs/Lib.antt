pub mod Calls
pub mod Disk
pub mod Meter
pub mod Past
pub mod Drive
pub mod Moments
