pub mod ReleaseLemmas
pub mod MeasureLemmas
pub mod OrderLemmas
pub mod DueLemmas
