-- Lemmas on the definitions.
pub mod ExampleLemmas
pub mod DenseLemmas
-- Lemmas that the proofs of plans and schedules share, from the bottom up.
pub mod ListLemmas
pub mod TickLemmas
pub mod RangeLemmas
pub mod SlotLemmas
pub mod ClashLemmas
pub mod SizeLemmas
pub mod PackLemmas
pub mod ScheduleClashLemmas
pub mod AcceptedLemmas
pub mod PlanLemmas
pub mod SweptLists
pub mod TimeLemmas
pub mod SchedulePackLemmas
pub mod SentLemmas
pub mod LineLemmas
