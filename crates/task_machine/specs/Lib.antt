pub mod Machine
pub mod Legal
pub mod Course
pub mod Owed
pub mod Laws
pub mod RunLaws
