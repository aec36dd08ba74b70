pub mod Messages
pub mod Frames
pub mod Laws
pub mod Examples
pub mod Sent
pub mod SentLaws
