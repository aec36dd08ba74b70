pub mod Places
pub mod Joined
pub mod Combined
pub mod Finding
pub mod Held
