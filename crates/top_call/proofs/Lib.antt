mod Parts
pub mod Written
pub mod Documents
pub mod Plans
pub mod Planned
pub mod Captures
pub mod Trials
pub mod Runs
pub mod Follows
mod Sharing
mod Texts
mod Few
mod Packets
mod Drawn
