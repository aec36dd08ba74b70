pub mod Lines
pub mod Sent
