pub mod Bare
pub mod Layers
