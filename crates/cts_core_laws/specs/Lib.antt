pub mod Told
pub mod Logs
pub mod Laws
