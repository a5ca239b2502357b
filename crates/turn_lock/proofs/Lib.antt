pub mod Prefixes
pub mod Totals
mod RuleLemmas
mod WordSteps
mod SeatSteps
