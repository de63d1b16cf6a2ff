pub mod Forms
pub mod Words
pub mod Makers
pub mod Causes
pub mod Events
pub mod Scripts
pub mod Lines
pub mod Laws
