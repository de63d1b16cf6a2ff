pub mod Given
pub mod Reading
pub mod Growing
pub mod Ending
