pub mod Seen
pub mod Causes
pub mod Contents
pub mod InMemory
pub mod Lines
pub mod Dialers
pub mod Vaults
pub mod Crews
