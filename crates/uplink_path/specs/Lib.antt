pub mod Packing
pub mod Sending
pub mod Emitting
pub mod Opened
pub mod Steps
