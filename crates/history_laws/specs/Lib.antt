pub mod Postings
pub mod Order
pub mod Notices
pub mod Starts
pub mod Telling
