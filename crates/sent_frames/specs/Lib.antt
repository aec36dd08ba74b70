pub mod Commands
pub mod Messages
pub mod Frames
pub mod Sources
