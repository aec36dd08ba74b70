pub mod Fields
pub mod Headers
pub mod CommandFields
pub mod CommandWritten
pub mod Room
pub mod Frames
pub mod DataFields
pub mod CutBytes
pub mod PackedPrbs
pub mod Sections
pub mod PieceWritten
pub mod CommandBack
pub mod ReadBack
pub mod Joining
mod Worked
