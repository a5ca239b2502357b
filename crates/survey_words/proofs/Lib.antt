pub mod CountLemmas
pub mod ListLemmas
pub mod ParseSteps
pub mod RowLemmas
pub mod ReadLemmas
pub mod FoundLemmas
pub mod EntryLemmas
