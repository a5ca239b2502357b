pub mod Sums
pub mod Exchange
pub mod First
pub mod Choice
pub mod Same
pub mod Opposed
pub mod Stretch
pub mod Ends
