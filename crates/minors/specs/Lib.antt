pub mod Minor
pub mod Combination
pub mod Laws
