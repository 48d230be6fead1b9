pub mod Fronts
pub mod Keeping
pub mod Parts
pub mod Stepping
pub mod Sent
pub mod FirstPasses
