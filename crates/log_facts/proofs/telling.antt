pub mod Past
pub mod Told
pub mod Clients
pub mod Stands
pub mod Histories
