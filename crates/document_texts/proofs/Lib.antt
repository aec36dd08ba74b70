pub mod DocumentLemmas
pub mod EventLemmas
pub mod NumberLemmas
pub mod PlanLemmas
pub mod TellLemmas
pub mod Halves
mod Told
mod Whole
mod Lists
pub mod Moved
mod Alike
mod Heard
mod Mixing
pub mod Summing
mod SharedWriting
pub mod Causes
pub mod IdleLemmas
mod FaultLemmas
mod TimesLemmas
pub mod RowLemmas
mod FewLemmas
pub mod FrameLemmas
mod PartLemmas
mod CopyLemmas
mod SentTellLemmas
