pub mod Header
pub mod Section
pub mod Tests
pub mod Message
pub mod Writes
pub mod Words
pub mod Names
pub mod Left
