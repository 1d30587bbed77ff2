pub mod Sound
pub mod Held
pub mod Binding
