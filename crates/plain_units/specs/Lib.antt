pub mod ClaimedStarts
pub mod Reports
pub mod Plain
pub mod Owned
pub mod DecodedWords
