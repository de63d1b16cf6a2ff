pub mod Makers
mod Moves
mod Splits
pub mod ManyPasses
