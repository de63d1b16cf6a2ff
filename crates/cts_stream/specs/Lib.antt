pub mod Parameters
pub mod Judged
pub mod Seen
