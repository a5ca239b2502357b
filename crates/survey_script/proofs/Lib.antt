pub mod TextLemmas
pub mod SplitLemmas
pub mod HelloLemmas
pub mod StepLemmas
pub mod WithinLemmas
pub mod FaultLemmas
pub mod ScriptLemmas
pub mod EarlierLemmas
