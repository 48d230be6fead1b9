pub mod Hung
pub mod Links
pub mod Selectors
pub mod Waiting
pub mod Hanging
pub mod Shelves
