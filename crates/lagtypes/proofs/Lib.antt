pub mod WordLemmas
pub mod SameLemmas
pub mod StateLemmas
pub mod GroupLemmas
pub mod NumberLemmas
pub mod WritingLemmas
