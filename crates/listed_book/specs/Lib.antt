pub mod Listed
pub mod Replies
pub mod Kept
