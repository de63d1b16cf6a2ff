pub mod Silent
pub mod Owns
