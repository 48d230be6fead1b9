mod Layouts
mod ReadLemmas
mod WriteLemmas
pub mod SameRequest
pub mod Postings
pub mod Sent
