mod Common
mod ContentLemmas
mod EndLemmas
mod ReportingLemmas
mod FrameLemmas
mod GapLemmas
pub mod JobLemmas
mod NoticingLemmas
mod PrecededLemmas
mod TakingLemmas
pub mod ReadingLemmas
