pub mod Snapping
pub mod Steps
pub mod Lasting
