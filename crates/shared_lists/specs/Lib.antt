pub mod Deeds
pub mod Sound
pub mod Said
pub mod Laws
