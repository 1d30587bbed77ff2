-- From what holds of a world to the law.
pub mod Pieces
pub mod Stores
pub mod Data
pub mod Clauses
pub mod Finals
pub mod Acknowledged
pub mod Entries
pub mod Holders
pub mod Spared
pub mod Safety
