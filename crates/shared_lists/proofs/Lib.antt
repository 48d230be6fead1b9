pub mod Pairs
pub mod Fronts
pub mod Numbers
pub mod Since
pub mod Offers
