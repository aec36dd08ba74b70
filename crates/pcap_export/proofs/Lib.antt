pub mod Sizes
pub mod Placed
pub mod Packed
pub mod Back
pub mod Runs
