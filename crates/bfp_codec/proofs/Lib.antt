pub mod Magnitudes
pub mod Twos
pub mod Fitting
pub mod Blocks
pub mod Spelled
pub mod Laws
pub mod Groups
pub mod Filling
pub mod Whole
pub mod Field
pub mod Digits
pub mod Same
pub mod Cut
mod Worked
