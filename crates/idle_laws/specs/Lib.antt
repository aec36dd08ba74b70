pub mod Proposals
pub mod Spans
pub mod Enlarged
pub mod Radiated
