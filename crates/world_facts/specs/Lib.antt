pub mod Turns
pub mod Forms
pub mod Members
pub mod MembersOf
pub mod Sizes
pub mod SizesOf
pub mod Numbers
pub mod Reached
