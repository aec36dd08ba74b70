pub mod Members
pub mod Pieces
pub mod Telling
pub mod Whole
pub mod Ascii
pub mod ObjectLemmas
pub mod Rules
