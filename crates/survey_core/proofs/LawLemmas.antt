-- The answers of a legal history: the last point meets them.
use Rattle.std.proofs.Common.{◌≡◌, ℕ, ◌+◌, List, [], ◌∷◌, length, replicate, ℤ, pos, ◌≤ℤ◌, refl, subst, arith}
use Rattle.std.proofs.lemmas.List.{length-replicate}
use Rattle.std.specs.List.{fold, filter_map}
use Rattle.std.proofs.lemmas.List.Elements.{All-replicate}
use Rattle.std.proofs.lemmas.Int.{ints}
use Rattle.criteria_model.specs.declared.pairs.Answer.{Answer}
use Rattle.criteria_model.specs.Worth.{increments}
use Rattle.criteria_model.specs.Answers.{MeetsAll}
use Rattle.pair_enumeration.specs.Listed.{Listed}
use Rattle.survey_core.specs.declared.events.Event.{Event}
use Rattle.survey_core.specs.declared.events.Event.TheVariants.{Eliminate, Issue, Commit, Close, Withdraw}
use Rattle.survey_core.specs.Histories.{standing, issued, committed}
use Rattle.survey_core.specs.Laws.{point_of, LastPointMeets}
use Rattle.survey_core.specs.Marked.{numbered}
use Rattle.survey_core.proofs.ListSteps.{Each, take_whole}
use Rattle.survey_core.proofs.StandingLemmas.{commit_count}
use Rattle.survey_core.proofs.SoundLemmas.{IsSoundAt, IsSound, sound_history, answers_count}

ones_meet : (levels : List ℕ) → MeetsAll levels [] (replicate (increments levels) (pos 1))
ones_meet levels = record {
  vector = record {
    len = length-replicate (increments levels) (pos 1);
    positive = All-replicate (λ x. pos 1 ≤ℤ x) (increments levels) (pos 1) (omega (arith, ints));
  };
  each = λ k d within. absurd (omega arith);
}

module _ (listed : Listed) (asked : List ℕ) (answers : List Answer) where
  abbrev levels : List ℕ
  levels = listed.criteria.levels

  abbrev AreSound : ℕ → List Event → Type 0
  AreSound before events = Each (λ e. IsSoundAt listed asked answers e.level e.event) (numbered before events)

  last_meets : (before : ℕ) (events : List Event) (earlier : List ℤ) → AreSound before events → before + commit_count events ≡ length answers
      → (commit_count events ≡ 0 → MeetsAll levels answers earlier) → MeetsAll levels answers (fold (λ earlier point. point) earlier (filter_map point_of events))
  last_meets before [] earlier each count start = start refl
  last_meets before (Eliminate worker place verdict combination ∷ later) earlier each count start =
      last_meets (before + 0) later earlier each.1 (omega arith) (λ none. start (omega arith))
  last_meets before (Issue desk place plus minus ∷ later) earlier each count start =
      last_meets (before + 0) later earlier each.1 (omega arith) (λ none. start (omega arith))
  last_meets before (Commit desk question side plus minus point ∷ later) earlier each count start =
      last_meets (before + 1) later point each.1 (omega arith)
      (λ none. subst (λ (l : List Answer). MeetsAll levels l point) (take_whole (before + 1) answers (omega arith)) each.0.met)
  last_meets before (Close desk question ∷ later) earlier each count start =
      last_meets (before + 0) later earlier each.1 (omega arith) (λ none. start (omega arith))
  last_meets before (Withdraw desk answer ∷ later) earlier each count start =
      last_meets (before + 0) later earlier each.1 (omega arith) (λ none. start (omega arith))

pub last_point_meets_lem : LastPointMeets
last_point_meets_lem listed history model legal =
    let sound : IsSound listed history = sound_history listed history legal in
    let answers : List Answer = committed listed.classes history in
    let count : 0 + commit_count (standing history) ≡ length answers = omega (arith, answers_count listed history sound) in
    last_meets listed (issued history) answers 0 (standing history) (replicate (increments listed.criteria.levels) (pos 1)) sound.each count
    (λ none.
    let empty : [] ≡ answers = take_whole 0 answers (omega arith) in
    subst (λ (l : List Answer). MeetsAll listed.criteria.levels l (replicate (increments listed.criteria.levels) (pos 1))) empty (ones_meet listed.criteria.levels))
