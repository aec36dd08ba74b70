pub mod HeadBytes
pub mod Steps
pub mod Written
