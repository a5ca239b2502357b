pub mod Integers
pub mod DividedLemmas
pub mod Product
pub mod Inverses
