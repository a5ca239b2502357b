pub mod Arrangement
pub mod Dictionary
pub mod Changes
pub mod Representation
pub mod View
