pub mod Places
pub mod PoolLaws
pub mod FirstLaws
