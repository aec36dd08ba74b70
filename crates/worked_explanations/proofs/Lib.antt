pub mod Worked
pub mod WorkedReasons
