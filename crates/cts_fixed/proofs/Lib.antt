pub mod Starting
pub mod Fixing
