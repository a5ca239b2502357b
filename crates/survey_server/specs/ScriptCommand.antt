-- What the run of a script writes, and the status that it ends with.
use Rattle.std.specs.Prelude.{◌≡◌, ℕ, List, ◌++◌, codes, Option, Some, None, Result, Ok, Err, String}
use Rattle.std.specs.Fmt.{decimal}
use Rattle.std.specs.declared.alloc.Global.{Global}
use Rattle.survey_run.specs.RunViews.{RunView}
use Rattle.survey_script.specs.Scripts.{IsScript}
use Rattle.survey_script.specs.declared.stops.ScriptPart.{ScriptPart}
use Rattle.survey_script.specs.declared.stops.ScriptPart.TheVariants.{Long, Lines, Hello, Sessions, Name, Code, Desk, Bye}
use Rattle.survey_server.specs.declared.commands.Ended.{Ended}
use Rattle.survey_server.specs.declared.script_runs.Stop.{Stop}
use Rattle.survey_server.specs.declared.script_runs.Stop.TheVariants as stop
use Rattle.survey_server.specs.Command.{ChecksFile, IsCheck, IsMigrate, IsModelShape, IsNoCommand, IsRank, IsRankable, IsSampleCommand, IsSilent, IsValidFile, IsValidResult, IsWorthAnswer, MigratesFile, RanksTable, SamplesShape, ShowsUsage, Writes, command_in}
use Rattle.survey_server.specs.RankTexts.{definition_fault_line}
use Rattle.survey_server.specs.ScriptRuns.{IsScriptOutcome}
use Rattle.survey_server.specs.Serving.{BeginsWithDefinition, IsServeCommand}
use Rattle.survey_words.specs.declared.commands.Command.{Command}
use Rattle.survey_words.specs.declared.commands.Command.TheVariants as command
use Rattle.survey_words.specs.declared.shapes.Shape.{Shape}

-- the words name the run of a script beside `eliminators` eliminators
abbrev pub IsRunCommand : List (String Global) → ℕ → Type 0
IsRunCommand words eliminators = command_in words ≡ Some (command.Run eliminators)

-- the run of the sample survey of a seed and a shape
abbrev pub IsSampleRunCommand : List (String Global) → ℕ → Shape → ℕ → Type 0
IsSampleRunCommand words seed shape eliminators = command_in words ≡ Some (command.RunSample seed shape eliminators)

-- they name neither a run nor the serving of a port, so nobody is waited for
pub record IsPlainCommand (words : List (String Global)) : Type 0 where
  pub no_run : (eliminators : ℕ) → ¬ IsRunCommand words eliminators
  pub no_sample : (seed : ℕ) (shape : Shape) (eliminators : ℕ) → ¬ IsSampleRunCommand words seed shape eliminators
  pub no_serve : (port eliminators connections : ℕ) → ¬ IsServeCommand words port eliminators connections

-- the word for what is wrong with a line of a script
abbrev pub script_part_text : ScriptPart → List ℕ
script_part_text Long = codes "long"
script_part_text Lines = codes "lines"
script_part_text Hello = codes "hello"
script_part_text Sessions = codes "sessions"
script_part_text Name = codes "name"
script_part_text Code = codes "code"
script_part_text Desk = codes "desk"
script_part_text Bye = codes "bye"

-- the line of a script that fails
abbrev pub script_line : ℕ → ScriptPart → List ℕ
script_line line part = codes "script " ++ decimal line ++ codes " " ++ script_part_text part ++ codes "\n"

-- how what came of a script is answered: after a run by its status, and else by the line of the refusal or by nothing
abbrev pub AnswersScript : Result RunView Stop → Option (List ℕ) → Option (List ℕ) → Ended → Type 0
AnswersScript (Ok end) before now ended = IsSilent 0 before now ended.status × (ended.run ≡ Some end)
AnswersScript (Err (stop.WriteFault end)) before now ended = IsSilent 4 before now ended.status × (ended.run ≡ Some end)
AnswersScript (Err (stop.Definition fault)) before now ended = Writes (definition_fault_line fault) 1 before now ended.status × (ended.run ≡ None)
AnswersScript (Err (stop.Script line part)) before now ended = Writes (script_line line part) 1 before now ended.status × (ended.run ≡ None)
AnswersScript (Err stop.ReadFault) before now ended = IsSilent 3 before now ended.status × (ended.run ≡ None)
AnswersScript (Err stop.NoMemory) before now ended = IsSilent 5 before now ended.status × (ended.run ≡ None)
AnswersScript (Err stop.DoorFault) before now ended = ⊥

-- the script of a source was run beside `eliminators` eliminators, or why not, and that answered. `told` is what was left in the source
-- before, `left` what is left now; `before` and `now` are what a sink holds; each where it is known
pub record RunsAndAnswers (eliminators : ℕ) (told left before now : Option (List ℕ)) (ended : Ended) : Type 0 where
  pub outcome : Result RunView Stop
  pub written : Option (List ℕ)
  pub came : IsScriptOutcome eliminators told left before written outcome
  pub answered : AnswersScript outcome written now ended

-- what a command that waits for nobody does, by the words
pub record DoesPlainCommand {X : Type 0} (words : List (String Global)) (source source_now : X) (told left before now : Option (List ℕ)) (status : ℕ) : Type 0 where
  pub check : IsCheck words → ChecksFile told left before now status
  pub worth : IsCheck words → IsWorthAnswer told before now status
  pub migrate : IsMigrate words → MigratesFile told before now status
  pub rank : IsRank words → RanksTable told left before now status
  pub sample : (seed : ℕ) (shape : Shape) → IsSampleCommand words seed shape → SamplesShape seed shape before now status
  pub sample_unread : (seed : ℕ) (shape : Shape) → IsSampleCommand words seed shape → source_now ≡ source
  pub usage : IsNoCommand words → ShowsUsage before now status
  pub unread : IsNoCommand words → source_now ≡ source

-- what lies ahead is what the command does its work on: a valid file for a check, a script for a run, a definition line for serving
abbrev pub HasInputFor : Command → Option (List ℕ) → Type 0
HasInputFor command.Check told = IsValidFile told
HasInputFor command.Migrate told = IsValidResult told
HasInputFor command.Rank told = IsRankable told
HasInputFor (command.Sample seed shape) told = IsModelShape shape
HasInputFor (command.Run eliminators) told = IsScript told
HasInputFor (command.RunSample seed shape eliminators) told = IsModelShape shape
HasInputFor (command.Serve port eliminators connections) told = BeginsWithDefinition told
