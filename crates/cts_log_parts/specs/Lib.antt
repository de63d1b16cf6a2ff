pub mod Grouping
pub mod Parts
pub mod Stops
pub mod Growths
pub mod Told
pub mod Laws
