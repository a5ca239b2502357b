pub mod LineLaws
pub mod LineLemmas
pub mod PartLemmas
pub mod RefillLemmas
pub mod ToldLemmas
pub mod SplitLaws
