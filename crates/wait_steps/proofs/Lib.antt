mod Handles
mod Samples
mod Spans
pub mod Marking
pub mod Naming
pub mod BoundLoop
pub mod Sent
