pub mod Firsts
pub mod FirstMatches
