pub mod FieldLemmas
pub mod RecordLemmas
pub mod ReadLemmas
pub mod RankLemmas
pub mod TableLemmas
