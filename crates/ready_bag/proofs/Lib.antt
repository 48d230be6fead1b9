mod Sums
mod Pasts
mod Steps
mod Deals
mod Totals
mod Together
pub mod Sent
pub mod NewPasses
