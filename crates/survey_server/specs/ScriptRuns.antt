-- What comes of a script that is to be run.
use Rattle.std.specs.Prelude.{◌≡◌, ℕ, List, Option, IfSome, Result, Ok, Err}
use Rattle.edges.specs.Told.{Appends, AppendsPrefix, IsAtEnd}
use Rattle.json_forms.specs.DefinitionViews.{model_of}
use Rattle.survey_run.specs.RunViews.{RunView}
use Rattle.survey_run.specs.Runs.{IsRunBy, count_of}
use Rattle.survey_run.specs.Sessions.{SessionRun}
use Rattle.survey_script.specs.ScriptViews.{IsWholeScript, ScriptView}
use Rattle.survey_script.specs.Scripts.{NoneFailsBeforeCut, script_of}
use Rattle.survey_script.specs.declared.stops.ScriptStop.{ScriptStop}
use Rattle.survey_script.specs.declared.stops.ScriptStop.TheVariants as script
use Rattle.survey_server.specs.declared.script_runs.Stop.{Stop}
use Rattle.survey_server.specs.declared.script_runs.Stop.TheVariants.{Definition, Script, ReadFault, WriteFault, DoorFault, NoMemory}
use Rattle.survey_server.specs.ScriptTexts.{sessions_text}

-- the stop of a script that wasn't read
abbrev pub stop_by : ScriptStop → Stop
stop_by (script.Definition fault) = Definition fault
stop_by (script.Script line part) = Script line part
stop_by script.ReadFault = ReadFault
stop_by script.NoMemory = NoMemory

-- the text of all replies of a script's run, in input order
abbrev pub run_text : ScriptView → RunView → List SessionRun → List ℕ
run_text script end sessions = sessions_text (count_of (model_of script.definition)) end.states sessions

-- the script ahead was run beside `workers` eliminators, and left this. `told` is the text that lay ahead, `left` what is left of it, `before`
-- and `now` are what a sink holds, each where it is known; `Puts` says how much of the replies' text the sink got
pub record RunsScript (Puts : Option (List ℕ) → Option (List ℕ) → List ℕ → Type 0) (workers : ℕ) (end : RunView) (told left before now : Option (List ℕ)) : Type 0 where
  pub script : ScriptView
  pub read : IfSome told (λ text. script_of text ≡ Ok script)
  pub whole : IsWholeScript script
  pub ended : IsAtEnd left
  pub sessions : List SessionRun
  pub run : IsRunBy script workers end sessions
  pub put : Puts before now (run_text script end sessions)

-- the text that lay ahead is no script, and nothing was written
abbrev pub IsNoScript : ScriptStop → Option (List ℕ) → Option (List ℕ) → Option (List ℕ) → Type 0
IsNoScript stop told before now = IfSome told (λ text. script_of text ≡ Err stop) × (now ≡ before)

-- what came of the script: it was run and all replies were written, or the sink failed at them; or nothing was written: it is none, the source failed
-- before a line that fails had come whole, or there was no memory
abbrev pub IsScriptOutcome : ℕ → Option (List ℕ) → Option (List ℕ) → Option (List ℕ) → Option (List ℕ) → Result RunView Stop → Type 0
IsScriptOutcome workers told left before now (Ok end) = RunsScript Appends workers end told left before now
IsScriptOutcome workers told left before now (Err (WriteFault end)) = RunsScript AppendsPrefix workers end told left before now
IsScriptOutcome workers told left before now (Err (Definition fault)) = IsNoScript (script.Definition fault) told before now
IsScriptOutcome workers told left before now (Err (Script line part)) = IsNoScript (script.Script line part) told before now
IsScriptOutcome workers told left before now (Err ReadFault) = NoneFailsBeforeCut told left × (now ≡ before)
IsScriptOutcome workers told left before now (Err NoMemory) = now ≡ before
IsScriptOutcome workers told left before now (Err DoorFault) = ⊥

-- the sink failed
abbrev pub IsWriteFault : Result RunView Stop → Type 0
IsWriteFault (Err (WriteFault end)) = Unit {0}
IsWriteFault _ = ⊥
