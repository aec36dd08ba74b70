pub mod SectionWords
pub mod HeadWords
pub mod Front
pub mod Back
pub mod Onward
pub mod Admitted
pub mod Joined
