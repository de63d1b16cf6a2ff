pub mod Causes
pub mod Defined
pub mod Definitions
pub mod Drafts
pub mod Laws
pub mod Standing
pub mod Steps
pub mod Sound
