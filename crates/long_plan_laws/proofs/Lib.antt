pub mod Lines
pub mod Parts
pub mod Ticks
pub mod Apart
pub mod Sendable
