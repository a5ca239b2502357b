pub mod Quotient
pub mod Divided
pub mod Inverse
