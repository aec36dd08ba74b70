pub mod Shown
pub mod Classic
pub mod Laws
