pub mod Numerals
pub mod ListSteps
pub mod NumberLaws
pub mod ListLaws
pub mod WordLaws
