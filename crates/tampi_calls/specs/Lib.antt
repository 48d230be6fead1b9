pub mod Values
pub mod Keeping
