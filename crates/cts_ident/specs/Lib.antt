pub mod Identification
pub mod Matches
