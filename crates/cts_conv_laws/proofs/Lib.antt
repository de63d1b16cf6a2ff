mod Numerals
mod Texts
mod Fractions
mod Uses
mod Blocks
