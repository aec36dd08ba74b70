pub mod Items
pub mod Responses
