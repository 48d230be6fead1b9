pub mod Names
pub mod Values
pub mod Places
pub mod Keeping
pub mod Pausing
pub mod Owing
pub mod Laws
