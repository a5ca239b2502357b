-- Results that are read from the front of a text, up to their end line.
use Rattle.std.specs.Prelude.{◌≡◌, ◌⊎◌, ℕ, ◌+◌, ◌-◌, List, length, Option, IfSome}
use Rattle.edges.specs.Told.{Takes, IsAtEnd}
use Rattle.result_file.specs.declared.entries.Format.{Format}
use Rattle.result_file.specs.declared.loading.Loaded.{Loaded}
use Rattle.result_file.specs.declared.loading.Loaded.TheVariants.{File, Refused}
use Rattle.result_file.specs.declared.progress.Progress.{Progress}
use Rattle.result_file.specs.declared.verdicts.Checked.{Checked}
use Rattle.result_file.specs.declared.verdicts.Checked.TheVariants.{Valid, ValidComplete, Invalid, Unfinished, ReadFault, NoMemory}
use Rattle.result_file.specs.declared.verdicts.Part.TheVariants.{Form}
use Rattle.result_file.specs.Checked.{HasEnded, NextFails, ComesTo, IsCut, IsFileOf}
use Rattle.result_file.specs.Contents.{of_events, lines_of}
use Rattle.result_file.specs.Files.{file_text}
use Rattle.result_file.specs.Kept.{KeptSurvey}
use Rattle.result_file.specs.LoadedResults.{LoadedResult}
use Rattle.result_file.specs.Migrated.{BeginsClaims, IsAccepted}
use Rattle.result_file.specs.Progress.{IsSurveyOf}

-- a verdict on a text by its lines up to the end line, which refuses it: what the check of the text says there
abbrev pub IsStopped : List ℕ → Checked → Type 0
IsStopped text Valid = ⊥
IsStopped text ValidComplete = ⊥
IsStopped text (Invalid line part) = ComesTo text line (λ stage rest. (¬ HasEnded stage) × NextFails stage rest part)
IsStopped text (Unfinished line) = ComesTo text line IsCut
IsStopped text ReadFault = Unit {0}
IsStopped text NoMemory = Unit {0}

-- no right result stands at the front of the text: a file of claims is refused for its first line, any other text as its check says
abbrev pub IsNoResult : List ℕ → Checked → Type 0
IsNoResult text Valid = ⊥
IsNoResult text ValidComplete = ⊥
IsNoResult text (Invalid line part) =
    (BeginsClaims text → Invalid line part ≡ Invalid 1 Form) × ((¬ BeginsClaims text) → IsStopped text (Invalid line part))
IsNoResult text (Unfinished line) = (¬ BeginsClaims text) × IsStopped text (Unfinished line)
IsNoResult text ReadFault = Unit {0}
IsNoResult text NoMemory = Unit {0}

-- a right result was taken from the front of the text: all lines of the file of its survey, the end line with its line end unless
-- the text ends there. `skipped` of them were taken before, and aren't among the lines that were read
pub record IsAtFront (text now : Option (List ℕ)) (skipped : ℕ) (file : LoadedResult) : Type 0 where
  pub format : Format
  pub taken : List ℕ
  pub is_file : IsFileOf (of_events format file.survey) taken
  pub told : Takes text now taken
  pub ends : (taken ≡ file_text (of_events format file.survey)) ⊎ IsAtEnd now
  pub lines : file.lines + skipped ≡ length (lines_of (of_events format file.survey)) + 1

-- a verdict, with lines counted from another number: so many lines came before, and `skipped` of them are lines of the text
abbrev pub counted_after : ℕ → ℕ → Checked → Checked
counted_after before skipped (Invalid line part) = Invalid (before + line - skipped) part
counted_after before skipped (Unfinished line) = Unfinished (before + line - skipped)
counted_after before skipped verdict = verdict

-- why no result was read from the front of the text
pub record IsRefusedAfter (text : Option (List ℕ)) (before skipped : ℕ) (verdict : Checked) : Type 0 where
  pub own : Checked
  pub refuses : ¬ IsAccepted own
  pub counted : verdict ≡ counted_after before skipped own
  pub no_result : IfSome text (λ bytes. IsNoResult bytes own)

-- the result at the front of a text was read, or the text was refused
abbrev pub IsLoaded : Option (List ℕ) → Option (List ℕ) → ℕ → ℕ → Loaded → Type 0
IsLoaded text now before skipped (File file) = IsAtFront text now skipped file
IsLoaded text now before skipped (Refused verdict) = IsRefusedAfter text before skipped verdict

-- where a check that is at this progress ends with this verdict, on the line of this number: a result that is whole is handed out,
-- and any other verdict with its line counted anew
abbrev pub EndsLoading : Progress → ℕ → ℕ → ℕ → Checked → Loaded → Type 0
EndsLoading progress before skipped number verdict (File file) =
    IsAccepted verdict × (file.lines ≡ number - skipped) × ((kept : KeptSurvey) → IsSurveyOf progress kept → file.survey ≡ kept.survey)
EndsLoading progress before skipped number verdict (Refused given) = (¬ IsAccepted verdict) × (given ≡ counted_after before skipped verdict)
