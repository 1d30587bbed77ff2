pub mod Hexadecimal
pub mod Widened
pub mod Recoded
pub mod Laws
