pub mod Routings
pub mod LinePlaces
pub mod LineChains
pub mod Connections
pub mod Takings
pub mod Writings
pub mod Postings
pub mod Laws
