-- What holds of every world: of the first one, and of the next by each turn.
pub mod FirstViews
pub mod FirstNodes
pub mod First
pub mod Quiet
pub mod Changed
pub mod Formed
pub mod Steps
pub mod Turns
pub mod ClientTurns
pub mod Run
