pub mod CauseLemmas
pub mod StopLemmas
pub mod HearLemmas
pub mod LandLemmas
pub mod MadeLemmas
