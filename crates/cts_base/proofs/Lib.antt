pub mod DecimalLemmas
pub mod Known
pub mod NameLemmas
pub mod Numerals
pub mod PrintLemmas
pub mod PrintUnique
pub mod SignLemmas
pub mod WholeLemmas
