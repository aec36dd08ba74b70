pub mod Walks
pub mod Parses
pub mod Plain
pub mod Limits
pub mod Readings
mod Capped
