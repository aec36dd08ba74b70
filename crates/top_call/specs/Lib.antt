pub mod Statuses
pub mod Endings
pub mod Answers
pub mod Trials
pub mod Run
