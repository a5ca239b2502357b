-- The progress in a file that a reader keeps, and the stage that it stands for.
use Rattle.std.specs.Prelude.{◌≡◌, ◌≢◌, ℕ, ◌+◌, List, [], ◌∷◌, ◌++◌, length, All, Option, IfSome}
use Rattle.edges.specs.Line.{HasNoLineEnd, unlines}
use Rattle.edges.specs.Told.{Takes, IsAtEnd}
use Rattle.result_file.specs.declared.progress.Progress.{Progress}
use Rattle.result_file.specs.declared.progress.Progress.TheVariants as reached
use Rattle.result_file.specs.declared.verdicts.Part.TheVariants.{Form}
use Rattle.result_file.specs.declared.verdicts.Checked.{Checked}
use Rattle.result_file.specs.declared.verdicts.Checked.TheVariants.{Valid, ValidComplete, Invalid, Unfinished, ReadFault, NoMemory}
use Rattle.result_file.specs.declared.bodies.Body.TheVariants as bodies
use Rattle.result_file.specs.Bodies.{Keeps, IsOfWhole}
use Rattle.result_file.specs.Checked.{Stage, blank, headed, begun, ended, Says, HasEnded, NextFails, LeavesOpen, ComesTo, IsChecked}
use Rattle.result_file.specs.Kept.{KeptSurvey}
use Rattle.result_file.specs.Texts.{end_line}

-- the progress stands for this stage
abbrev pub IsAtStage : Progress → Stage → Type 0
IsAtStage reached.Blank blank = Unit {0}
IsAtStage (reached.Headed kind) (headed other) = kind ≡ other
IsAtStage (reached.Begun body) (begun content) = Keeps body content
IsAtStage (reached.Ended body) (ended content) = Keeps body content
IsAtStage _ _ = ⊥

-- the line takes each stage that the old progress stands for to one that the new progress stands for
pub record GoesOn (lines : List (List ℕ)) (line : List ℕ) (progress : Progress) : Type 0 where
  pub stage : Stage
  pub says : Says (lines ++ line ∷ []) stage
  pub stands : IsAtStage progress stage

-- the file is whole after this piece of a line, and has this verdict
abbrev pub EndsWhole : Stage → List ℕ → Checked → Type 0
EndsWhole (begun content) piece verdict = (piece ≡ end_line) × IsOfWhole content verdict
EndsWhole (ended content) piece verdict = (piece ≡ []) × IsOfWhole content verdict
EndsWhole _ piece verdict = ⊥

-- the file ends after a piece of a line, of that number, in a stage: what it is
abbrev pub EndsAs : Stage → List ℕ → ℕ → Checked → Type 0
EndsAs stage piece number Valid = EndsWhole stage piece Valid
EndsAs stage piece number ValidComplete = EndsWhole stage piece ValidComplete
EndsAs stage piece number (Invalid line part) = HasEnded stage × (piece ≢ []) × (line ≡ number) × (part ≡ Form)
EndsAs stage piece number (Unfinished line) = LeavesOpen stage piece × (line ≡ number)
EndsAs stage piece number ReadFault = ⊥
EndsAs stage piece number NoMemory = ⊥

-- what was read of a text, where it is known: right lines, of which there are one fewer than the number `line`,
-- at a stage that the progress stands for
pub record HasCome (text now : Option (List ℕ)) (line : ℕ) (progress : Progress) : Type 0 where
  pub lines : List (List ℕ)
  pub stage : Stage
  pub unbroken : All HasNoLineEnd lines
  pub told : Takes text now (unlines lines)
  pub says : Says lines stage
  pub stands : IsAtStage progress stage
  pub number : line ≡ length lines + 1

-- one more line came after those, and the progress stands for what they come to
pub record ComesFurther (before : List (List ℕ)) (line : List ℕ) (text now : Option (List ℕ)) (number : ℕ) (progress : Progress) : Type 0 where
  pub come : HasCome text now number progress
  pub one_more : come.lines ≡ before ++ line ∷ []

-- the verdict speaks of the line of this number, if it speaks of one
abbrev pub IsAtLine : ℕ → Checked → Type 0
IsAtLine number (Invalid line part) = line ≡ number
IsAtLine number (Unfinished line) = line ≡ number
IsAtLine number _ = Unit {0}

-- the text deserves the verdict; where that is a wrong line, by what follows a stage that the progress stands for
abbrev pub StopsAs : Progress → List ℕ → Checked → Type 0
StopsAs progress text (Invalid line part) = ComesTo text line (λ stage rest. IsAtStage progress stage × NextFails stage rest part)
StopsAs progress text verdict = IsChecked text verdict

-- the check stops at the line of this number, with this verdict
pub record StopsThere (progress : Progress) (number : ℕ) (text : Option (List ℕ)) (verdict : Checked) : Type 0 where
  pub line : IsAtLine number verdict
  pub stops : IfSome text (λ bytes. StopsAs progress bytes verdict)

-- the text ahead was a piece of a line without its line end, or nothing, with which the file is whole; all is read
pub record EndsWithPiece (old new : Progress) (verdict : Checked) (piece : List ℕ) (before now left : Option (List ℕ)) : Type 0 where
  pub same : new ≡ old
  pub whole : (stage : Stage) → IsAtStage old stage → EndsWhole stage piece verdict
  pub unbroken : HasNoLineEnd piece
  pub told : Takes before now piece
  pub none_ahead : IsAtEnd now
  pub ended : IsAtEnd left

-- the end line has come
abbrev pub HasEndLine : Progress → Type 0
HasEndLine (reached.Ended body) = Unit {0}
HasEndLine _ = ⊥

-- the progress is in a result, of which this is kept
abbrev pub IsSurveyOf : Progress → KeptSurvey → Type 0
IsSurveyOf (reached.Begun (bodies.Survey kept)) survey = kept ≡ survey
IsSurveyOf (reached.Ended (bodies.Survey kept)) survey = kept ≡ survey
IsSurveyOf _ survey = ⊥
