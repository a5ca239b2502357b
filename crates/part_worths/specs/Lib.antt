pub mod Apportionment
pub mod Values
pub mod Laws
