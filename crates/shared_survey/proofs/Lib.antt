pub mod StageLemmas
pub mod SeatLemmas
pub mod BenchLemmas
pub mod Crosses
