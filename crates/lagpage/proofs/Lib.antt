mod AsBox
pub mod PieceLemmas
pub mod UtfLemmas
