pub mod RankInput
pub mod RankTexts
pub mod SampleTexts
pub mod Command
pub mod ScriptTexts
pub mod ScriptRuns
pub mod Serving
pub mod ScriptCommand
