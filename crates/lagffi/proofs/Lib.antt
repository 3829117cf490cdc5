mod Common
pub mod AlgorithmLemmas
pub mod AsBox
pub mod AskingLemmas
pub mod MadeLemmas
pub mod MaskLemmas
pub mod TableLemmas
pub mod ToldLemmas
