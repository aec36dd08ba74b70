pub mod Plans
pub mod Sparse
pub mod Documents
