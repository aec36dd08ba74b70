pub mod Lines
pub mod Messages
pub mod Texts
pub mod Printing
pub mod Faults
