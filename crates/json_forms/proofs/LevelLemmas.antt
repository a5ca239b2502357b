-- The values of levels: the cells that they are in, and how much room they take.
use Rattle.std.proofs.Common.{◌≡◌, ℕ, ◌+◌, ◌-◌, ◌*◌, ◌<◌, ◌≤◌, ℤ, List, All, length, map, take, get_or, set, Some, slice_get, sym, arith}
use Rattle.std.specs.List.{range_with_len}
use Rattle.std.proofs.lemmas.List.{take_more_set}
use Rattle.std.proofs.lemmas.List.FromFn.{map-range_with_len_more}
use Rattle.std.proofs.lemmas.List.Sums.{sum_by_more, sum_by-take-le}
use Rattle.std.proofs.lemmas.Option.{gets}
use Rattle.criteria_model.specs.declared.limits.TheConstants.{MAX_INCREMENTS}
use Rattle.criteria_model.specs.Worth.{increments}
use Rattle.criteria_model.proofs.LevelLemmas.{length-le-increments}

pub cells_more : (f : ℕ → ℤ) (cells : List ℤ) (i j : ℕ) (v : ℤ) → i < length cells → j ≡ i → take i cells ≡ map f (range_with_len 1 i) → v ≡ f (i + 1)
    → take (i + 1) (set cells j v) ≡ map f (range_with_len 1 (i + 1))
cells_more f cells i j v within same so_far is =
    rw (same, take_more_set cells i v within, so_far, is) (sym (map-range_with_len_more f 1 i (i + 1) (omega arith)))

pub index-is : (xs : List ℕ) (i v : ℕ) → slice_get xs i ≡ Some v → get_or xs i 0 ≡ v
index-is xs i v h = grind (arith, gets)

-- the increments of one criterion more
pub increments_more : (levels : List ℕ) (k : ℕ) → k < length levels → increments (take (k + 1) levels) ≡ increments (take k levels) + (get_or levels k 0 - 1)
increments_more levels k within = sum_by_more (λ n. n - 1) levels k 0 within

increments-take-le : (levels : List ℕ) (k : ℕ) → increments (take k levels) ≤ increments levels
increments-take-le levels k = sum_by-take-le (λ n. n - 1) levels k

-- the values of the first criteria take at most so many bytes: 43 for each level, and 3 for each criterion's brackets and comma
pub few_bytes : (levels : List ℕ) (count : ℕ) → All (λ n. 2 ≤ n) levels → increments levels ≤ MAX_INCREMENTS → count ≤ length levels
    → 43 * (increments (take count levels) + count) + 3 * count ≤ 89 * MAX_INCREMENTS
few_bytes levels count two few within =
    omega (arith, length-le-increments levels two, few, increments-take-le levels count, within)

-- places count from 0, and criteria from 1
pub first-place : (place : ℕ) → place + 1 - 1 ≡ place
first-place place = omega arith
