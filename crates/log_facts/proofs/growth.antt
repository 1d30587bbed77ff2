-- Growth: each message goes on saying what it said.
pub mod Pasts
pub mod Shuts
pub mod Orders
pub mod SaidNodes
pub mod SaidControl
