pub mod Input
pub mod Accepted
pub mod Due
pub mod Decided
pub mod Laws
pub mod Whys
