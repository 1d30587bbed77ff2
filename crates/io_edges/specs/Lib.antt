pub mod Calls
pub mod Faults
pub mod Reading
pub mod Status
pub mod Telling
pub mod Writing
