pub mod HexTexts
pub mod WidenedFits
pub mod Recoding
