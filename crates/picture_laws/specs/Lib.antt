pub mod Inside
pub mod Drawn
pub mod Plain
pub mod Parts
pub mod Laws
