pub mod Comps
