pub mod Faults
pub mod Told
pub mod Line
pub mod Lines
pub mod Ends
pub mod Text
