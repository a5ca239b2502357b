pub mod Listed
pub mod Places
pub mod Walks
pub mod Laws
