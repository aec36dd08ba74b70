pub mod NumberLemmas
pub mod SameLemmas
pub mod OrderLemmas
pub mod RunLemmas
pub mod NumberedLemmas
pub mod TableLemmas
