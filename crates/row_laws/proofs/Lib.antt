pub mod Integers
pub mod Signs
pub mod ListLemmas
pub mod ItemLemmas
pub mod RowLemmas
pub mod Totals
