pub mod Told
pub mod Cells
pub mod Keeping
pub mod Steps
