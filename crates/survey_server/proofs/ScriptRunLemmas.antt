-- What the run of a script comes to.
use Rattle.std.proofs.Common.{◌≡◌, ℕ, List, Option, refl, subst}
use Rattle.std.specs.Prelude.{IfSome, Result, Ok, Err}
use Rattle.edges.specs.Told.{Appends, AppendsPrefix, IsAtEnd}
use Rattle.survey_run.specs.RunViews.{RunView}
use Rattle.survey_run.specs.Runs.{IsRun}
use Rattle.survey_script.specs.ScriptViews.{IsWholeScript, ScriptView}
use Rattle.survey_script.specs.Scripts.{IsStopOf, NoneFailsBeforeCut, script_of}
use Rattle.survey_script.specs.declared.stops.ScriptStop.{ScriptStop}
use Rattle.survey_script.specs.declared.stops.ScriptStop.TheVariants as script
use Rattle.survey_server.specs.ScriptRuns.{IsScriptOutcome, RunsScript, stop_by}
use Rattle.survey_server.specs.ScriptTexts.{text_by_lines}
use Rattle.survey_server.proofs.ScriptTextLemmas.{run_text_is}

-- the source failed before a script was read
abbrev pub IsReadFault : Result ScriptView ScriptStop → Type 0
IsReadFault result = result ≡ Err script.ReadFault

-- no script was read, and nothing was written
pub runs_none : (workers : ℕ) (told left now : Option (List ℕ)) (stop : ScriptStop) → IfSome told (λ text. IsStopOf (script_of text) stop)
    → (IsReadFault (Err stop) → NoneFailsBeforeCut told left) → IsScriptOutcome workers told left now now (Err (stop_by stop))
runs_none workers told left now (script.Definition fault) read first = (read, refl)
runs_none workers told left now (script.Script line part) read first = (read, refl)
runs_none workers told left now script.ReadFault read first = (first refl, refl)
runs_none workers told left now script.NoMemory read first = refl

module _ (script : ScriptView) (workers : ℕ) (end : RunView) (told left before now : Option (List ℕ)) (read : IfSome told (λ text. script_of text ≡ Ok script))
    (whole : IsWholeScript script) (ended : IsAtEnd left) (is : IsRun script workers end) where
  -- all was written
  pub runs_whole : Appends before now (text_by_lines end.states script.sessions end.replies) → RunsScript Appends workers end told left before now
  runs_whole put = record {
    script = script;
    read = read;
    whole = whole;
    ended = ended;
    sessions = is.0;
    run = is.1;
    put = subst (λ (l : List ℕ). Appends before now l) (run_text_is script workers end is.0 is.1) put;
  }

  -- the sink failed
  pub runs_cut : AppendsPrefix before now (text_by_lines end.states script.sessions end.replies) → RunsScript AppendsPrefix workers end told left before now
  runs_cut put = record {
    script = script;
    read = read;
    whole = whole;
    ended = ended;
    sessions = is.0;
    run = is.1;
    put = subst (λ (l : List ℕ). AppendsPrefix before now l) (run_text_is script workers end is.0 is.1) put;
  }
