mod Written
pub mod MessageFacts
