-- The count of faults that each object at the edge of the program carries.
use Rattle.std.specs.Prelude.{◌≡◌, ℕ, ◌+◌, ◌-◌, ◌^◌, ◌≤◌, min}

-- the count rose and did not fall; a count at its last value counts as risen
abbrev pub HasRisen : ℕ → ℕ → Type 0
HasRisen before now = (before ≤ now) × (min (before + 1) (2 ^ 64 - 1) ≤ now)

-- the count rose where a call failed, and stayed where none did
pub record CountsFaults (failed : Type 0) (before now : ℕ) : Type 0 where
  pub rises : failed → HasRisen before now
  pub stays : ¬ failed → now ≡ before

-- the count of an end that never fails
abbrev pub no_faults : ℕ
no_faults = 0
