pub mod Same
pub mod Found
mod Apart
mod Bounds
mod Finders
mod Sums
pub mod Lifted
