pub mod Timing
pub mod Live
pub mod Checking
pub mod Usual
pub mod TickLemmas
