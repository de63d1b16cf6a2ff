pub mod Asked
pub mod Cases
pub mod Requested
pub mod Sending
pub mod Writing
