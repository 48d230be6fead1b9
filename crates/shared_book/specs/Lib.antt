pub mod Answers
pub mod Computed
pub mod Kept
pub mod Parts
