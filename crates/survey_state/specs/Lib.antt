pub mod States
pub mod Laws
pub mod Sought
pub mod Findings
pub mod Turns
pub mod Solos
