pub mod Few
pub mod Rooms
pub mod Tells
pub mod Changes
pub mod Moves
pub mod Runs
pub mod Operations
