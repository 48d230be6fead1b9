pub mod Taking
pub mod Reduces
pub mod Complete
pub mod Depths
pub mod Sound
pub mod Written
