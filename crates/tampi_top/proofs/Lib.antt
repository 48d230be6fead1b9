pub mod AcceptedLemmas
pub mod CauseLemmas
pub mod DueLemmas
