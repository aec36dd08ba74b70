pub mod NearestLemmas
mod DistanceLemmas
pub mod OrderLemmas
pub mod MissingLemmas
pub mod RecordLemmas
mod PlaceLemmas
mod CountLemmas
mod NoneLemmas
pub mod GrowingLemmas
mod CurrentLemmas
mod StepLemmas
mod FirstLemmas
pub mod TableLemmas
pub mod UnitLemmas
mod KeptLemmas
mod WalkLemmas
mod StoryLemmas
mod HeardOrderLemmas
