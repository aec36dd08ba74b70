pub mod Telling
pub mod Hex
pub mod Read
