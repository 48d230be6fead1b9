pub mod Counts
pub mod Past
pub mod Rule
pub mod Passes
pub mod Closing
