pub mod Bodies
pub mod Tidying
pub mod OpenedOnce
pub mod Telling
