pub mod Scopes
pub mod Undoing
pub mod Values
pub mod Parts
