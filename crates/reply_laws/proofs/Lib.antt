pub mod DictionaryPoints
pub mod RowPoints
pub mod Decided
pub mod TotalLemmas
pub mod Replies
pub mod CompleteLemmas
