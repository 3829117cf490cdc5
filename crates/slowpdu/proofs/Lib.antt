mod Common
pub mod LayoutLemmas
pub mod FaultLemmas
pub mod LacpduLemmas
pub mod MarkerLemmas
pub mod PduLemmas
pub mod PduInLemmas
pub mod ReadingLemmas
pub mod WritingLemmas
pub mod EncodeLemmas
