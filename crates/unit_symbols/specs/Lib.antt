pub mod Symbols
pub mod Places
pub mod Searches
pub mod DueSymbols
pub mod Tellings
pub mod Cursors
