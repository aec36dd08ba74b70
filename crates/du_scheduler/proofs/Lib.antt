pub mod CountLemmas
pub mod OrderLemmas
pub mod ProperLemmas
mod PartLemmas
pub mod FrameLemmas
mod GivingLemmas
pub mod PlanLemmas
pub mod MessageLemmas
pub mod TableLemmas
pub mod TurnOrder
pub mod Left
pub mod KeptLemmas
pub mod RunLemmas
pub mod FillLemmas
pub mod ListedLemmas
pub mod PlanPartLemmas
pub mod CutLemmas
pub mod StepLemmas
pub mod KnowLemmas
pub mod PlanStepLemmas
pub mod WalkLemmas
pub mod WalkingLemmas
