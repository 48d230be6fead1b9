pub mod Fits
pub mod Bounds
