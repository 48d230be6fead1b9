pub mod Rounds
pub mod Lying
pub mod Owed
pub mod Sent
pub mod Opening
