pub mod Placing
pub mod Supplying
pub mod LinePosts
pub mod Gathering
pub mod Keepings
pub mod Putting
pub mod Posting
