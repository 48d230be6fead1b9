pub mod Counts
pub mod Tracing
pub mod Ordering
mod Noticing
mod Notified
mod Handles
pub mod Starting
pub mod Standing
pub mod Told
