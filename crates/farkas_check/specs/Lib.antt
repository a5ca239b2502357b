pub mod Cited
pub mod Sums
pub mod Proof
pub mod Flaws
pub mod Laws
