pub mod Payload
pub mod Stamps
pub mod Table
pub mod Kept
pub mod Past
pub mod After
