pub mod NameLemmas
pub mod NearestLemmas
pub mod PlaceLemmas
