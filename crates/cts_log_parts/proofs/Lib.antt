pub mod Dividing
pub mod Packing
pub mod Leaving
pub mod PartsRead
pub mod Joining
pub mod Growing
pub mod Cutting
pub mod Puttings
