pub mod Header
pub mod Section
pub mod Messages
pub mod Phases
pub mod States
pub mod Writes
pub mod Names
