pub mod Line
pub mod Bags
pub mod Intervals
pub mod Covering
pub mod Marks
pub mod Requests
pub mod Cuts
