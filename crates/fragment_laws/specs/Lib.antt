pub mod Apart
pub mod Flow
pub mod Once
pub mod Example
