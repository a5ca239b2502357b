-- Checked files: which bytes are valid, and what is wrong with the others. A file has a heading, a model, claims or
-- events, and an end. It is what its lines are, whatever reads them.
use Rattle.std.specs.Prelude.{◌≡◌, ◌≢◌, ◌⊎◌, ℕ, ◌+◌, ◌<◌, ◌≤◌, List, [], ◌∷◌, ◌++◌, length, None, Option, IfSome}
use Rattle.edges.specs.Line.{HasNoLineEnd, Splits, first_line, unlines}
use Rattle.criteria_model.specs.Criteria.{Criteria}
use Rattle.criteria_model.specs.Faults.{model_fault}
use Rattle.result_file.specs.declared.limits.TheConstants.{MAX_LINE}
use Rattle.result_file.specs.declared.entries.Entry.{Entry}
use Rattle.result_file.specs.declared.kinds.Kind.{Kind}
use Rattle.result_file.specs.declared.verdicts.Part.{Part}
use Rattle.result_file.specs.declared.verdicts.Part.TheVariants.{Form, Model}
use Rattle.result_file.specs.declared.verdicts.Checked.{Checked}
use Rattle.result_file.specs.declared.verdicts.Checked.TheVariants.{Valid, ValidComplete, Invalid, Unfinished, ReadFault, NoMemory}
use Rattle.result_file.specs.Claims.{Claim}
use Rattle.result_file.specs.Contents.{Content, of_claims, of_events, lines_of, IsRightContent, IsCompleteContent}
use Rattle.result_file.specs.Entries.{HasEntryForm}
use Rattle.result_file.specs.Forms.{HasModelForm}
use Rattle.result_file.specs.RightClaims.{HasForm, FailsAs}
use Rattle.result_file.specs.RightEvents.{EntryFailsAs}
use Rattle.result_file.specs.Texts.{heading, end_line, model_line, claim_line, entry_line}

-- how far right lines have come: no line, the heading, a model and claims or events, or all of the file
pub data Stage : Type 0 where
  blank : Stage
  headed : Kind → Stage
  begun : Content → Stage
  ended : Content → Stage

-- the lines of a stage
abbrev pub Says : List (List ℕ) → Stage → Type 0
Says lines blank = lines ≡ []
Says lines (headed kind) = lines ≡ heading kind ∷ []
Says lines (begun content) = IsRightContent content × (lines ≡ lines_of content)
Says lines (ended content) = IsRightContent content × (lines ≡ lines_of content ++ end_line ∷ [])

-- the line isn't of a form that may stand between the model and the end of a file such as this
abbrev pub HasNoForm : Content → List ℕ → Type 0
HasNoForm (of_claims criteria claims) line = (claim : Claim) → HasForm criteria claim → line ≢ claim_line claim
HasNoForm (of_events format survey) line = (entry : Entry) → HasEntryForm format survey.listed.criteria entry → line ≢ entry_line entry

-- the line is of such a form, and this is its first part that is wrong
abbrev pub HasWrongPart : Content → List ℕ → Part → Type 0
HasWrongPart (of_claims criteria claims) line part =
    (claim : Claim) × HasForm criteria claim × (line ≡ claim_line claim) × FailsAs criteria claims claim part
HasWrongPart (of_events format survey) line part =
    (entry : Entry) × HasEntryForm format survey.listed.criteria entry × (line ≡ entry_line entry) × EntryFailsAs survey entry part

-- the first part that is wrong of a line after a stage
abbrev pub Fails : Stage → List ℕ → Part → Type 0
Fails blank line Form = (kind : Kind) → line ≢ heading kind
Fails (headed kind) line Form = (criteria : Criteria) → HasModelForm criteria → line ≢ model_line criteria
Fails (headed kind) line Model =
    (criteria : Criteria) × HasModelForm criteria × (line ≡ model_line criteria) × (model_fault criteria.levels criteria.degree ≢ None)
Fails (begun content) line Form = (line ≢ end_line) × HasNoForm content line
Fails (begun content) line part = HasWrongPart content line part
Fails (ended content) line Form = Unit {0}
Fails _ line _ = ⊥

-- a whole line of at most the longest length comes next, and fails so
pub record NextLineFails (stage : Stage) (rest : List ℕ) (part : Part) : Type 0 where
  pub line : List ℕ
  pub after : List ℕ
  pub split : Splits rest (line ∷ []) after
  pub fits : length line ≤ MAX_LINE
  pub fails : Fails stage line part

-- the file has ended
abbrev pub HasEnded : Stage → Type 0
HasEnded (ended content) = Unit {0}
HasEnded _ = ⊥

-- what comes next fails: more bytes than the longest line's without a line end, any byte after the end, or a whole line
abbrev pub NextFails : Stage → List ℕ → Part → Type 0
NextFails stage rest part =
    ((MAX_LINE < length (first_line rest)) × (part ≡ Form))
    ⊎ (HasEnded stage × (rest ≢ []) × (part ≡ Form))
    ⊎ NextLineFails stage rest part

-- a last line without its line end leaves the file open, unless it is the end line in its place
abbrev pub LeavesOpen : Stage → List ℕ → Type 0
LeavesOpen (begun content) rest = rest ≢ end_line
LeavesOpen (ended content) rest = ⊥
LeavesOpen _ rest = Unit {0}

-- right lines, of which there are one fewer than the number `line`, and after them a text such as P says
pub record ComesTo (text : List ℕ) (line : ℕ) (P : Stage → List ℕ → Type 0) : Type 0 where
  pub lines : List (List ℕ)
  pub rest : List ℕ
  pub stage : Stage
  pub split : Splits text lines rest
  pub says : Says lines stage
  pub number : line ≡ length lines + 1
  pub next : P stage rest

-- a line without its line end that isn't too long, and leaves the file open
abbrev pub IsCut : Stage → List ℕ → Type 0
IsCut stage rest = HasNoLineEnd rest × (length rest ≤ MAX_LINE) × LeavesOpen stage rest

-- all lines of a file with this right content, the last with its line end or without it
pub record IsFileOf (content : Content) (text : List ℕ) : Type 0 where
  pub right : IsRightContent content
  pub lines : (text ≡ unlines (lines_of content) ++ end_line) ⊎ (text ≡ unlines (lines_of content ++ end_line ∷ []))

-- a verdict that the text deserves
abbrev pub IsChecked : List ℕ → Checked → Type 0
IsChecked text Valid = (content : Content) × IsFileOf content text × (¬ IsCompleteContent content)
IsChecked text ValidComplete = (content : Content) × IsFileOf content text × IsCompleteContent content
IsChecked text (Invalid line part) = ComesTo text line (λ stage rest. NextFails stage rest part)
IsChecked text (Unfinished line) = ComesTo text line IsCut
IsChecked text ReadFault = Unit {0}
IsChecked text NoMemory = Unit {0}

-- the same of a text, where it is known
abbrev pub IsToldChecked : Option (List ℕ) → Checked → Type 0
IsToldChecked told verdict = IfSome told (λ text. IsChecked text verdict)
