mod Common
pub mod NetworkLines
pub mod Networks
pub mod NetworkMoves
pub mod NetworkEvents
mod NetworkRuns
pub mod NetworkSources
pub mod NetworkLaws
pub mod NetworkTakeovers
pub mod NetworkWitness
pub mod NetworkCounting
pub mod NetworkCalls
pub mod NetworkArriving
