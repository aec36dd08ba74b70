pub mod Refusals
pub mod Ways
pub mod Packets
pub mod Checked
pub mod ReadBack
pub mod Statuses
pub mod Answers
pub mod Run
