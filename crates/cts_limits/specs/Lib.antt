pub mod Colors
pub mod Laws
pub mod States
