pub mod Claims
pub mod Rule
pub mod Views
pub mod Steps
pub mod Told
pub mod Ends
pub mod Claiming
pub mod Keeping
