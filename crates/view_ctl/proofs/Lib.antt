pub mod Flushes
pub mod Doors
pub mod Spares
pub mod Names
