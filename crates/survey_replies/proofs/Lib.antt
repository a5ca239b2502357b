pub mod InterviewLemmas
pub mod ReplyLemmas
pub mod CallLemmas
pub mod TurnLemmas
pub mod JournalLemmas
pub mod PlainSteps
pub mod PlainLemmas
pub mod AloneLemmas
