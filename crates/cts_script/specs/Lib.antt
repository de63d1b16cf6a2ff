pub mod Spacing
pub mod Lines
pub mod Events
pub mod Effects
pub mod Transcripts
pub mod Laws
