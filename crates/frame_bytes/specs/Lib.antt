pub mod Spelled
pub mod Transport
pub mod Commands
pub mod Messages
pub mod Cuts
pub mod Written
pub mod Reading
pub mod Headers
