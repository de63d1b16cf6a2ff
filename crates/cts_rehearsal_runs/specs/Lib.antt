pub mod Protocols
pub mod Cut
pub mod Sites
pub mod Finishing
