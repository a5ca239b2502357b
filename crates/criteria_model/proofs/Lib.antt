pub mod LevelLemmas
pub mod DominanceLemmas
pub mod CountLemmas
pub mod DotLemmas
pub mod GainLemmas
pub mod DifferenceSteps
pub mod RankLemmas
