pub mod Proposed
pub mod Standing
pub mod Text
pub mod Listed
pub mod Free
pub mod Tables
pub mod Lines
