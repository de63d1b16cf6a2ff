mod WordsRead
mod FirstRefused
mod Fitting
mod Readings
mod Opened
mod Heads
pub mod SoundSites
pub mod SiteSaid
