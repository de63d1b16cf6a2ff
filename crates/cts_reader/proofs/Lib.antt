pub mod FirstCause
pub mod FirstRefused
pub mod Passes
