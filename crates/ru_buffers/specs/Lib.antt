pub mod Calls
pub mod Advancing
pub mod Units
pub mod JobLaws
pub mod Reporting
