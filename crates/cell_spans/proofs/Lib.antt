pub mod IntervalLemmas
pub mod CoveringLemmas
pub mod CountLemmas
pub mod BagLemmas
pub mod MarkLemmas
pub mod RequestLemmas
pub mod CutLemmas
