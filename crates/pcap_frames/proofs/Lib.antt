pub mod Steps
pub mod Passing
pub mod Walking
pub mod Shown
pub mod Options
pub mod Powers
pub mod Offsets
