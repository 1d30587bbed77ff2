pub mod FirstPlace
pub mod Slots
pub mod SlotChanges
pub mod SlotWalks
pub mod SlotEndings
pub mod Rows
pub mod Acknowledged
