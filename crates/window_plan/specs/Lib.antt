pub mod Names
pub mod Fitting
pub mod Ranges
pub mod Breaches
pub mod Windows
pub mod Fit
