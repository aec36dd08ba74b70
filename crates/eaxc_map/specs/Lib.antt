pub mod Ids
pub mod Endpoints
pub mod Added
