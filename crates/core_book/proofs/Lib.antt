pub mod Insides
pub mod Sent
