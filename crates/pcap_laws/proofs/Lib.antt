pub mod Words
pub mod Short
pub mod Records
pub mod Shown
pub mod Later
pub mod Same
