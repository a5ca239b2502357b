pub mod OwnLemmas
pub mod ModelLemmas
pub mod VisitLemmas
pub mod ConnectionLemmas
pub mod StackLemmas
pub mod ConnectionThreadLemmas
pub mod Crosses
pub mod TaskCrosses
