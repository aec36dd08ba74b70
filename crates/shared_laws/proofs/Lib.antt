pub mod Bare
pub mod Layering
