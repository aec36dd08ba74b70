pub mod Releasing
pub mod Due
