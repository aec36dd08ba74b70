pub mod FrameLemmas
pub mod NumberLemmas
pub mod SendableLemmas
pub mod CloseLemmas
pub mod TakeLemmas
pub mod EmitLemmas
pub mod StepLemmas
