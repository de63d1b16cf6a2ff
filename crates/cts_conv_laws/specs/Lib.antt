pub mod Numerals
pub mod Uses
pub mod Blocks
