pub mod SpanLemmas
pub mod ProposedLemmas
pub mod ValidLemmas
pub mod ReadLemmas
pub mod Enlarging
pub mod Radiating
