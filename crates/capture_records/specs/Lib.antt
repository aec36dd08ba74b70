pub mod Left
pub mod Reading
pub mod Records
pub mod Refusals
