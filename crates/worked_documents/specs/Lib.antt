pub mod Common
pub mod Copies
pub mod Measured
