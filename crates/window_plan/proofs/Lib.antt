pub mod Cases
pub mod Fits
pub mod Greatest
pub mod Missing
pub mod Parting
pub mod Joined
pub mod Telling
pub mod Numbered
