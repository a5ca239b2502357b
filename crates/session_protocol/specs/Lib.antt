pub mod Exchanges
pub mod Sessions
pub mod Laws
