pub mod Requests
pub mod Switch
pub mod Laws
pub mod Order
pub mod Queues
pub mod Slots
pub mod Routes
pub mod Kept
