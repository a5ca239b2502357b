pub mod Ranking
pub mod SumLemmas
