mod Common
pub mod ChainLemmas
pub mod FoldLemmas
pub mod WalkLemmas
pub mod FlagLemmas
pub mod TableLemmas
pub mod TickLemmas
pub mod PickLemmas
pub mod MoveLemmas
pub mod WaitLemmas
pub mod FreeLemmas
