pub mod Logs
pub mod Vaults
pub mod Growing
pub mod Ending
pub mod Following
pub mod Laws
