pub mod Followings
pub mod Sightings
