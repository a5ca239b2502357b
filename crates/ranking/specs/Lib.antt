pub mod Names
pub mod NamedWorths
pub mod Tables
pub mod Rankings
