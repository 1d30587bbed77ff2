pub mod Did
pub mod Turned
pub mod Ready
pub mod Clients
pub mod Replicas
pub mod Acting
