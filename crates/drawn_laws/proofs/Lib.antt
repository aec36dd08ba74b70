mod Words
mod Numbers
mod Written
mod Lines
mod Choices
mod Endpoints
mod Cells
mod Reading
mod Grids
mod Sections
mod Arrivals
pub mod Drawn
mod Lists
mod Frames
mod Near
mod Places
mod Good
mod Judged
mod Told
mod Entries
mod Standing
mod Records
mod Reasons
mod Missing
mod Silent
mod Ends
pub mod Drawable
mod ReplayCells
pub mod Replays
mod Plans
pub mod Documents
