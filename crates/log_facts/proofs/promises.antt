-- What is promised of every world, from what holds of it.
pub mod Bodies
pub mod Agreement
pub mod Known
pub mod Stable
pub mod Data
pub mod Sealed
pub mod Trimmed
pub mod Messages
pub mod All
