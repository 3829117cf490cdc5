mod Common
pub mod ConfigLemmas
pub mod DocumentFaults
pub mod DocumentLemmas
pub mod LimitLemmas
pub mod EntryLemmas
pub mod Walks
pub mod ScriptLemmas
