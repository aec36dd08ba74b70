pub mod Drawable
pub mod Laws
pub mod Events
pub mod Replays
pub mod Documents
