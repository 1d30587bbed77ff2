pub mod NodeLists
pub mod NoneLost
pub mod Countable
pub mod Making
