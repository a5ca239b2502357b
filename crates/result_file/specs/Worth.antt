-- What a valid file is worth.
use Rattle.std.specs.Prelude.{◌≡◌, ℕ, List, ◌∷◌, ◌++◌, Some}
use Rattle.criteria_model.specs.declared.pairs.Pair.{Pair}
use Rattle.criteria_model.specs.declared.pairs.Answer.{Answer}
use Rattle.criteria_model.specs.declared.pairs.Side.{Side}
use Rattle.criteria_model.specs.Answers.{IsRanked, IsSatisfiable}
use Rattle.criteria_model.specs.Criteria.{Criteria}
use Rattle.criteria_model.specs.Pairs.{AreReplicas}
use Rattle.farkas_check.specs.declared.combination.Combination.{Combination}
use Rattle.pair_enumeration.specs.declared.flips.Flip.{Flip}
use Rattle.pair_enumeration.specs.Places.{flipped}
use Rattle.survey_core.specs.declared.events.Event.{Event}
use Rattle.survey_core.specs.declared.events.Event.TheVariants.{Eliminate}
use Rattle.survey_core.specs.Histories.{committed, class_at}
use Rattle.survey_core.specs.Laws.{flipped_side, RanksEveryPair}
use Rattle.survey_core.specs.Recorded.{Recorded}
use Rattle.result_file.specs.declared.eliminations.Elimination.{Elimination}
use Rattle.result_file.specs.declared.verdicts.Checked.{Checked}
use Rattle.result_file.specs.declared.verdicts.Checked.TheVariants.{Valid, ValidComplete}
use Rattle.result_file.specs.Checked.{IsFileOf}
use Rattle.result_file.specs.Claims.{Claim, eliminated, answers_of}
use Rattle.result_file.specs.Contents.{Content, of_claims, of_events}

-- every value vector that meets the answers ranks the pair so, and each replica of it, the same way round or turned
pub record RanksReplicas (levels : List ℕ) (answers : List Answer) (pair : Pair) (side : Side) : Type 0 where
  pub itself : IsRanked levels answers pair side
  pub replicas : (a b : List ℕ) (flip : Flip) → AreReplicas levels pair (flipped flip a b)
      → IsRanked levels answers (record { left = a; right = b }) (flipped_side flip side)

-- each pair that claims eliminate is ranked so, with its replicas, by the answers above its line
abbrev pub ClaimsAreRanked : Criteria → List Claim → Type 0
ClaimsAreRanked criteria claims =
    (before : List Claim) (e : Elimination) (after : List Claim) → claims ≡ before ++ eliminated e ∷ after
    → RanksReplicas criteria.levels (answers_of before) e.pair e.verdict

-- each class that events eliminate is ranked so, with its replicas, by the answers standing at its line
abbrev pub EventsAreRanked : Recorded → Type 0
EventsAreRanked survey =
    (before : List Event) (worker place : ℕ) (verdict : Side) (combination : Combination) (after : List Event) (pair : Pair)
    → survey.history ≡ before ++ Eliminate worker place verdict combination ∷ after → class_at survey.listed.classes place ≡ Some pair
    → RanksReplicas survey.listed.criteria.levels (committed survey.listed.classes before) pair verdict

-- each eliminated pair is ranked so, with its replicas, by every value vector that meets the answers standing at its line
abbrev pub EliminationsAreSound : Content → Type 0
EliminationsAreSound (of_claims criteria claims) = ClaimsAreRanked criteria claims
EliminationsAreSound (of_events format survey) = EventsAreRanked survey

-- the answers standing at the end are satisfiable, and every two undominated alternatives of a degree within the limit
-- have the ranking of their class, by an event that stands, for every value vector that meets the answers
pub record IsSettled (survey : Recorded) : Type 0 where
  pub satisfiable : IsSatisfiable survey.listed.criteria.levels (committed survey.listed.classes survey.history)
  pub ranked : RanksEveryPair survey.listed survey.history

-- that of a survey; claims settle nothing
abbrev pub SettlesAll : Content → Type 0
SettlesAll (of_claims criteria claims) = ⊥
SettlesAll (of_events format survey) = IsSettled survey

-- whatever the text contains, each pair that it eliminates is ranked so
abbrev pub IsRankedFile : List ℕ → Type 0
IsRankedFile text = (content : Content) → IsFileOf content text → EliminationsAreSound content

-- whatever the text contains is a survey that settles every pair
abbrev pub IsSettledFile : List ℕ → Type 0
IsSettledFile text = (content : Content) → IsFileOf content text → SettlesAll content

-- what a text with this verdict is worth
abbrev pub IsWorth : List ℕ → Checked → Type 0
IsWorth text Valid = IsRankedFile text
IsWorth text ValidComplete = IsRankedFile text × IsSettledFile text
IsWorth text _ = Unit {0}
