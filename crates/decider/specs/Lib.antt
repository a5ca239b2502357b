pub mod Standing
pub mod Decisions
pub mod Combining
pub mod Trying
pub mod OneAnswer
pub mod Witnesses
pub mod Reserved
pub mod ToolDecisions
