pub mod OneRun
pub mod SiteSound
pub mod Judging
pub mod Going
pub mod Telling
pub mod Logging
pub mod Legality
mod Rows
