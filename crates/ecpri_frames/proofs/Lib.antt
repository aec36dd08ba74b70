pub mod Bytes
pub mod Histories
pub mod Spelled
pub mod Gathered
pub mod Walking
