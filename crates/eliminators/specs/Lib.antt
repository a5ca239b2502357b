pub mod Jobs
pub mod HandIns
pub mod Work
pub mod Laws
