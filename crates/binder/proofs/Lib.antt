pub mod Rosters
pub mod Waits
pub mod Flights
pub mod Chains
pub mod PassedBatches
pub mod ReadyReads
pub mod Leaving
pub mod PassedLeaving
