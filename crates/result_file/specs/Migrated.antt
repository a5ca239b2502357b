-- Results that are copied into the second format.
use Rattle.std.specs.Prelude.{◌≡◌, ℕ, List, [], ◌∷◌, ◌++◌, All, Option, IfSome, Result, Ok, Err, Vec}
use Rattle.std.specs.declared.alloc.Global.{Global}
use Rattle.edges.specs.Line.{HasNoLineEnd, line_end, unlines}
use Rattle.edges.specs.Told.{Takes}
use Rattle.survey_core.specs.Recorded.{Recorded}
use Rattle.result_file.specs.declared.entries.Format.{Format}
use Rattle.result_file.specs.declared.entries.Format.TheVariants.{Two}
use Rattle.result_file.specs.declared.kinds.Kind.TheVariants as kinds
use Rattle.result_file.specs.declared.verdicts.Checked.{Checked}
use Rattle.result_file.specs.declared.verdicts.Checked.TheVariants.{Valid, ValidComplete, Invalid, Unfinished, ReadFault, NoMemory}
use Rattle.result_file.specs.declared.verdicts.Part.TheVariants.{Form}
use Rattle.result_file.specs.Checked.{IsFileOf, IsChecked}
use Rattle.result_file.specs.Contents.{of_events}
use Rattle.result_file.specs.Files.{file_text, result_of, IsRightFile}
use Rattle.result_file.specs.Texts.{heading}

-- the text begins with the first line of a file of claims
abbrev pub BeginsClaims : List ℕ → Type 0
BeginsClaims text = (rest : List ℕ) × (text ≡ heading kinds.Claims ++ line_end ∷ rest)

-- the text is the file of a survey, in some format
pub record IsResultFile (text : List ℕ) : Type 0 where
  pub format : Format
  pub survey : Recorded
  pub file : IsFileOf (of_events format survey) text

-- a verdict on a file that is whole and right
abbrev pub IsAccepted : Checked → Type 0
IsAccepted Valid = Unit {0}
IsAccepted ValidComplete = Unit {0}
IsAccepted _ = ⊥

-- the text is no right result: a file of claims is refused for its first line, any other text as its check says
abbrev pub IsRefused : List ℕ → Checked → Type 0
IsRefused text Valid = ⊥
IsRefused text ValidComplete = ⊥
IsRefused text (Invalid line part) =
    (BeginsClaims text → Invalid line part ≡ Invalid 1 Form) × ((¬ BeginsClaims text) → IsChecked text (Invalid line part))
IsRefused text (Unfinished line) = (¬ BeginsClaims text) × IsChecked text (Unfinished line)
IsRefused text ReadFault = Unit {0}
IsRefused text NoMemory = Unit {0}

-- the copy is the file, in the second format, of the survey whose file in some format the text is
pub record IsCopyOf (text copy : List ℕ) : Type 0 where
  pub format : Format
  pub survey : Recorded
  pub file : IsFileOf (of_events format survey) text
  pub copied : copy ≡ file_text (result_of survey.listed survey.history)
  pub right : IsRightFile (result_of survey.listed survey.history)

-- the text, where it is known, was copied; or it was refused
abbrev pub IsMigrated : Option (List ℕ) → Result (Vec ℕ Global) Checked → Type 0
IsMigrated told (Ok copy) = IfSome told (λ text. IsCopyOf text copy.items)
IsMigrated told (Err verdict) = IfSome told (λ text. IsRefused text verdict)

-- the last line, if it has no line end yet, with one
abbrev pub ended_piece : List ℕ → List ℕ
ended_piece [] = []
ended_piece (byte ∷ piece) = (byte ∷ piece) ++ line_end ∷ []

-- lines that were taken, and their copy under the heading of the second format
pub record HasCopied (before now : Option (List ℕ)) (copy : List ℕ) : Type 0 where
  pub lines : List (List ℕ)
  pub unbroken : All HasNoLineEnd lines
  pub took : Takes before now (unlines lines)
  pub copied : copy ≡ unlines (heading (kinds.Result Two) ∷ lines)
