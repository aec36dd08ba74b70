pub mod Heard
pub mod Laws
pub mod Named
pub mod Sound
pub mod Judged
pub mod Built
pub mod Runs
pub mod Stops
