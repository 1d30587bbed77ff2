pub mod StageView
pub mod Rounds
pub mod Gathering
pub mod Rows
pub mod Begun
