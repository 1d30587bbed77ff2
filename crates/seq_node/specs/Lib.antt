pub mod Kept
pub mod Batches
pub mod Starting
pub mod NodeView
pub mod Beginning
pub mod Leaving
