pub mod Symbols
pub mod Silence
pub mod Places
pub mod Marked
pub mod Runs
pub mod Tables
pub mod Scans
pub mod Laws
