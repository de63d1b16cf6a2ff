pub mod LineRules
pub mod NamesRead
pub mod Within
pub mod OwnWords
