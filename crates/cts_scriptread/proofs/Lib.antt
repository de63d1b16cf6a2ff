pub mod DigitPairs
pub mod Said
pub mod Taken
pub mod Rows
pub mod OneEach
pub mod Exact
pub mod Refusing
