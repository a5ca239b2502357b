-- Shares of a whole by the largest remainders (Hamilton's method of apportionment). Places count from 0.
use Rattle.std.specs.Prelude.{ℕ, ◌+◌, ◌-◌, ◌*◌, ◌/◌, ◌%◌, ◌≤◌, ◌≡◌, ◌==◌, ◌&&◌, ◌||◌, Bool, List, length, map, sum, sum_by, count_by, nat_lt, slice_index, if◌then◌else◌}
use Rattle.std.specs.List.{range_with_len}
use Rattle.criteria_model.specs.declared.limits.TheConstants.{MAX_INCREMENTS}
use Rattle.part_worths.specs.declared.apportionment.TheConstants.{WHOLE}

-- the part of the whole that a value has of the total, rounded down
abbrev pub rounded_down : ℕ → ℕ → ℕ
rounded_down total value = WHOLE * value / total

-- what is left over where it is rounded down
abbrev pub remainder : ℕ → ℕ → ℕ
remainder total value = WHOLE * value % total

abbrev pub remainders : List ℕ → List ℕ
remainders values = map (remainder (sum values)) values

-- what is missing to the whole, where each is rounded down
abbrev pub missing : List ℕ → ℕ
missing values = WHOLE - sum_by (rounded_down (sum values)) values

-- whether place j comes before place i: its number is larger, or as large and it is the lower place
abbrev pub is_before : List ℕ → ℕ → ℕ → Bool
is_before numbers i j = nat_lt (slice_index numbers i) (slice_index numbers j) || (slice_index numbers i == slice_index numbers j) && nat_lt j i

-- how many places come before place i
abbrev pub count_before : List ℕ → ℕ → ℕ
count_before numbers i = count_by (is_before numbers i) (range_with_len 0 (length numbers))

-- the share at a place: rounded down, and one more where fewer places come before it by their remainders than are missing
abbrev pub share_at : List ℕ → ℕ → ℕ
share_at values i = rounded_down (sum values) (slice_index values i) + (if nat_lt (count_before (remainders values) i) (missing values) then 1 else 0)

-- the shares of all places
abbrev pub shares_of : List ℕ → List ℕ
shares_of values = map (share_at values) (range_with_len 0 (length values))

-- a list that a `Shares` holds
pub record IsShares (items : List ℕ) : Type 0 where
  pub some : 1 ≤ length items
  pub most : length items ≤ MAX_INCREMENTS
  pub whole : sum items ≡ WHOLE
