pub mod Words
pub mod Devices
pub mod Rules
pub mod Sound
pub mod Output
pub mod Telling
pub mod Outlives
