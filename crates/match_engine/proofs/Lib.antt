mod Traffics
mod Counts
mod Marks
mod Accounts
mod Course
mod Calls
mod Keeps
mod Replies
mod Known
mod Cuts
mod Ways
mod Orders
pub mod Standings
mod Overtaking
mod Leftovers
pub mod Waiting
pub mod Matched
pub mod Partners
pub mod Sent
