pub mod Samples
pub mod Sampling
pub mod Laws
