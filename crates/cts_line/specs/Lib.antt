pub mod Doing
pub mod Rows
pub mod Talks
pub mod Putting
pub mod Telling
pub mod Ending
