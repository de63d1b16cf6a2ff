pub mod Lasts
pub mod Holds
pub mod Grounds
pub mod Counts
pub mod Laws
pub mod Followed
