pub mod MessageLemmas
pub mod ExampleLemmas
pub mod SentLemmas
