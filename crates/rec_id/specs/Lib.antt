pub mod Identity
pub mod Marks
pub mod History
pub mod Line
pub mod Lawful
pub mod Verdict
pub mod Sharing
