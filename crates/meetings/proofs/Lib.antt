pub mod Counts
pub mod LogLemmas
