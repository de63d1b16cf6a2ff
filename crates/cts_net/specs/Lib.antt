pub mod Waits
pub mod Delays
pub mod Devices
