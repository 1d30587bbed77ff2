pub mod Decimals
pub mod Lacks
pub mod NumberWords
pub mod Newlines
pub mod Sayable
pub mod Spelling
