pub mod Walks
pub mod Slots
pub mod Gathered
pub mod Doors
