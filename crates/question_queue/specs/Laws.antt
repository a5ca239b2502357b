-- Laws of first places, each proved as the contract of a public function.
use Rattle.std.specs.Prelude.{◌≡◌, ℕ, ◌+◌, ◌-◌, ◌<◌, ◌≤◌, Bool, IsTrue, IsFalse, List, length, slice_get, Some, All, MatchOption}
use Rattle.question_queue.specs.declared.marks.Mark.{Mark}
use Rattle.question_queue.specs.Pools.{first_place, is_job, given_out}

-- the mark at the place passes the test, and none before it does
pub record IsFirstPlace (test : Mark → Bool) (marks : List Mark) (place : ℕ) : Type 0 where
  pub low : 1 ≤ place
  pub high : place ≤ length marks
  pub passes : (mark : Mark) → slice_get marks (place - 1) ≡ Some mark → IsTrue (test mark)
  pub earlier : (before : ℕ) (mark : Mark) → before + 1 < place → slice_get marks before ≡ Some mark → IsFalse (test mark)

-- a first place is that of a mark that passes, where none before it does; where there is none, no mark passes
abbrev pub FirstPlacesAreFirst : Type 0
FirstPlacesAreFirst =
    (test : Mark → Bool) (marks : List Mark) → MatchOption (first_place test marks) (All (λ mark. IsFalse (test mark)) marks) (λ place. IsFirstPlace test marks place)

-- a class that was given out is no job at that version any more
abbrev pub JobsAreGivenOnce : Type 0
JobsAreGivenOnce =
    (version : ℕ) (marks : List Mark) (place : ℕ) (mark : Mark) → first_place (is_job version) marks ≡ Some place
    → slice_get (given_out version marks) (place - 1) ≡ Some mark → IsFalse (is_job version mark)
