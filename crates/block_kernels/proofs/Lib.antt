pub mod Extremes
pub mod Groups
pub mod Lengths
pub mod Loops
pub mod Numbers
