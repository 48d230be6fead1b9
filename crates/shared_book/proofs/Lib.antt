pub mod Moves
pub mod Calling
pub mod Going
pub mod Sections
pub mod Pairing
pub mod Issuing
pub mod Sent
