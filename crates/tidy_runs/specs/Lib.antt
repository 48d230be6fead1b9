pub mod Tidy
pub mod Openings
