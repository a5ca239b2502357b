-- Rules whose parts are tested in order: a rule is broken by the first part that fails.
use Rattle.std.specs.Prelude.{◌≡◌, ◌⊎◌, List, [], ◌∷◌, Result, MatchResult}
use Rattle.survey_core.specs.declared.broken.Broken.{Broken}

-- a part of a rule: what must hold, and how it is named where it is the first that fails
pub record Part : Type 1 where
  pub holds : Type 0
  pub fails : Broken → Type 0

-- a part with one name
abbrev pub part : Broken → Type 0 → Part
part name holds = record { holds = holds; fails = λ broken. (broken ≡ name) × (¬ holds) }

-- each part holds
abbrev pub AllHold : List Part → Type 0
AllHold [] = Unit {0}
AllHold (first ∷ parts) = first.holds × AllHold parts

-- the first part that fails has this name: those before it hold
abbrev pub FirstFails : List Part → Broken → Type 0
FirstFails [] broken = ⊥
FirstFails (first ∷ parts) broken = first.fails broken ⊎ (first.holds × FirstFails parts broken)

-- the verdict on a rule: Ok where each part holds, else the name of the first that fails
abbrev pub IsVerdictOn : {X : Type 0} → List Part → Result X Broken → Type 0
IsVerdictOn parts verdict = MatchResult verdict (λ _. AllHold parts) (λ broken. FirstFails parts broken)
