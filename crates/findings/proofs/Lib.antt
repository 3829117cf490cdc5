pub mod FirstLemmas
pub mod EndLemmas
pub mod KnowsLemmas
pub mod KeptEndLemmas
