pub mod Found
pub mod Asked
pub mod Asking
pub mod ItemCells
pub mod Texts
