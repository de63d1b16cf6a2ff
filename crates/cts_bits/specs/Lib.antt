pub mod Bits
pub mod Fields
pub mod Places
pub mod Windows
