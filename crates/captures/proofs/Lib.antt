pub mod EntryLemmas
pub mod StaysLemmas
pub mod StepLemmas
pub mod WholeLemmas
