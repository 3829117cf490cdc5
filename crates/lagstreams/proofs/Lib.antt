pub mod LineLemmas
pub mod SinkLemmas
