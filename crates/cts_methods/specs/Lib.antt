pub mod Asking
pub mod Kinds
pub mod Methods
pub mod Seen
