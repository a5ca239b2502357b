-- What is marked and kept of a survey's classes. Places count from 1.
use Rattle.std.specs.Prelude.{◌≡◌, ℕ, ◌+◌, ◌-◌, ◌^◌, ◌<◌, ◌≤◌, min, Bool, true, false, not, ◌||◌, ◌==◌, nat_lt, if◌then◌else◌, List, length, replicate, slice_get, slice_set, position, Option, Some, None, ℤ}
use Rattle.std.specs.List.{position_or_len}
use Rattle.std.specs.Option.{option_map, option_map_or, option_and_then}
use Rattle.question_queue.specs.declared.marks.Mark.{Mark}
use Rattle.question_queue.specs.declared.marks.Kept.{Kept}
use Rattle.question_queue.specs.declared.marks.Wanted.{Wanted}
use Rattle.question_queue.specs.declared.marks.Wanted.TheVariants.{Unranked, Due, Job}

-- the marks and the latest vectors, one of each a class
pub record Pooled : Type 0 where
  pub marks : List Mark
  pub kept : List (Option Kept)

-- a class that is not ranked, not asked and was never given out
abbrev pub new_mark : Mark
new_mark = record { ranked = false; asked = false; given = None }

-- that number of such classes, without vectors
abbrev pub new_pool : ℕ → Pooled
new_pool count = record { marks = replicate count new_mark; kept = replicate count None }

-- last given out at the version
abbrev pub is_given : ℕ → Option ℕ → Bool
is_given version (Some given) = given == version
is_given version None = false

-- not ranked
abbrev pub is_unranked : Mark → Bool
is_unranked mark = not mark.ranked

-- neither ranked nor asked
abbrev pub is_due : Mark → Bool
is_due mark = not (mark.ranked || mark.asked)

-- not ranked, and never given out or last given out at another version
abbrev pub is_job : ℕ → Mark → Bool
is_job version mark = not (mark.ranked || is_given version mark.given)

-- what a search wants
abbrev pub is_wanted : Wanted → Mark → Bool
is_wanted Unranked = is_unranked
is_wanted Due = is_due
is_wanted (Job version) = is_job version

-- the first place whose mark passes the test, or none
abbrev pub first_place : (Mark → Bool) → List Mark → Option ℕ
first_place test marks = option_map (λ before. before + 1) (position test marks)

-- the place after that number of marks, or none
abbrev pub place_at : List Mark → ℕ → Option ℕ
place_at marks before = if nat_lt before (length marks) then Some (before + 1) else None

-- one mark is changed, counted from 0
abbrev pub with_mark : (Mark → Mark) → List Mark → ℕ → List Mark
with_mark change marks before = option_map_or (λ mark. slice_set marks before (change mark)) (slice_get marks before) marks

-- the mark of the class at a place is changed, and nothing else
pub record ChangesMark (change : Mark → Mark) (old new : Pooled) (place : ℕ) : Type 0 where
  pub marks : new.marks ≡ with_mark change old.marks (place - 1)
  pub kept : new.kept ≡ old.kept
  pub len : length new.marks ≡ length old.marks

-- how many marks stand before the first class that isn't ranked, and how many before the first that is due; all, where there is none
abbrev pub reach_of : Pooled → ℕ
reach_of pool = position_or_len is_unranked pool.marks + position_or_len is_due pool.marks

abbrev pub as_ranked : Mark → Mark
as_ranked mark = record mark { ranked = true }

abbrev pub as_unranked : Mark → Mark
as_unranked mark = record mark { ranked = false }

abbrev pub as_asked : Mark → Mark
as_asked mark = record mark { asked = true }

abbrev pub as_given : ℕ → Mark → Mark
as_given version mark = record mark { given = Some version }

-- the first job at the version is given out, where there is one
abbrev pub given_out : ℕ → List Mark → List Mark
given_out version marks = option_map_or (λ before. with_mark (as_given version) marks before) (position (is_job version) marks) marks

-- the vectors kept for a class
abbrev pub kept_at : List (Option Kept) → ℕ → Option Kept
kept_at kept place = option_and_then (λ latest. latest) (slice_get kept (place - 1))

abbrev pub vectors_of : Kept → List ℤ × List ℤ
vectors_of kept = (kept.plus, kept.minus)

-- how many answers they are known to meet
abbrev pub met_of : Option Kept → ℕ
met_of None = 0
met_of (Some kept) = kept.met

-- at most that number
abbrev pub cut_kept : ℕ → Option Kept → Option Kept
cut_kept met None = None
cut_kept met (Some kept) = Some (record kept { met = min kept.met met })

-- how the numbers of a `Pool` stand to its marks: the first two are exact, and before the last no class is a job at the version
pub record KeepsPlaces (marks : List Mark) (kept : List (Option Kept)) (unranked due version job : ℕ) : Type 0 where
  pub same : length kept ≡ length marks
  pub few : length marks < 2 ^ 32
  pub first_unranked : unranked ≡ position_or_len is_unranked marks
  pub first_due : due ≡ position_or_len is_due marks
  pub no_job : job ≤ position_or_len (is_job version) marks
