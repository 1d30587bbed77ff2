pub mod Pieces
pub mod Taking
pub mod SplitLines
pub mod Texts
