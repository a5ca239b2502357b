pub mod BenchLemmas
pub mod Crosses
