pub mod Expansion
pub mod MinorAt
pub mod Bound
pub mod Laws
mod Samples
