pub mod Orders
pub mod Demo
pub mod Sent
