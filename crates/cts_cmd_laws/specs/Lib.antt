pub mod Sound
pub mod Existing
pub mod Standing
