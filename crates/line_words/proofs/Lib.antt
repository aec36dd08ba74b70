pub mod Cuts
pub mod Marks
pub mod Texts
pub mod WordSteps
pub mod EachTexts
