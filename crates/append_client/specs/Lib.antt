pub mod Appends
pub mod AppendState
pub mod Sender
pub mod Endings
