mod Steps
mod Endings
mod Whys
mod Closed
mod Taking
mod Homing
mod Order
mod Whole
mod Sorting
mod Returned
mod Fits
mod Parts
mod Owing
mod Site
mod Plain
mod Once
mod Complete
mod Causing
mod Leaving
pub mod Headlines
pub mod Lists
pub mod Telling
