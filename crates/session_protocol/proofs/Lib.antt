pub mod ExchangeLemmas
pub mod ReplyCases
pub mod SessionLemmas
pub mod OneSession
pub mod WritingLemmas
