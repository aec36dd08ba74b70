pub mod TimeLemmas
pub mod WaitLemmas
pub mod BeginLemmas
