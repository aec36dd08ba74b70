pub mod Common
pub mod OneCommand
pub mod BothWays
pub mod OverlapDocument
pub mod LostFragment
pub mod LateUplink
pub mod Corners
pub mod Whole
