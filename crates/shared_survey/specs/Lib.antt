pub mod LockSeats
pub mod Passes
pub mod Accesses
pub mod Benches
