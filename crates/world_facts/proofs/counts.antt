-- What is counted: no role wants more than one number with an event.
pub mod Client
pub mod Reader
pub mod Control
pub mod All
