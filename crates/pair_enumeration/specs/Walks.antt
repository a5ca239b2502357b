-- How the list is made, for the private functions that make it: criterion by criterion, each with the two levels
-- of the left and of the right side, or cancelled as (0, 0).
use Rattle.std.specs.Prelude.{◌≡◌, ℕ, zero, suc, ◌+◌, ◌-◌, ◌≤◌, List, [], ◌∷◌, ◌++◌, length, take, drop, map, All, nat_lt, ◌==◌, if◌then◌else◌, Option, Some, None, flat_map}
use Rattle.std.specs.Option.{option_map_or}
use Rattle.std.specs.List.{range_with_len}
use Rattle.std.specs.Ordering.{nat_cmp}
use Rattle.std.specs.declared.cmp.Ordering.TheVariants.{Less}
use Rattle.std.specs.Cmp.Lexicographic.{slice_cmp}
use Rattle.criteria_model.specs.declared.limits.TheConstants.{MAX_INCREMENTS, MAX_LEVEL}
use Rattle.criteria_model.specs.declared.pairs.Pair.{Pair}
use Rattle.criteria_model.specs.Classes.{order_level}
use Rattle.pair_enumeration.specs.declared.walks.Stage.{Stage}
use Rattle.pair_enumeration.specs.declared.walks.Stage.TheVariants.{Same, Left, Both}
use Rattle.pair_enumeration.specs.declared.walks.Walk.{Walk}

-- which sides were higher somewhere, after one more criterion with these two levels; none where no class begins so
abbrev pub stage_after : Stage → ℕ → ℕ → Option Stage
stage_after Same left right = if nat_lt right left then Some Left else None
stage_after Left left right = if nat_lt right left then Some Left else if nat_lt left right then Some Both else None
stage_after Both left right = if left == right then None else Some Both

-- the levels of the criteria that are still to come
abbrev pub Tail : Type 0
Tail = List (ℕ × ℕ)

-- what the order reads of levels, criterion by criterion
abbrev pub codes : Tail → List ℕ
codes tail = flat_map (λ p. order_level p.0 ∷ order_level p.1 ∷ []) tail

-- the first tail's levels stand before the second's, by their left level and then their right level
abbrev pub Precedes : Tail → Tail → Type 0
Precedes tail other = slice_cmp nat_cmp (codes tail) (codes other) ≡ Less

-- one criterion more in front of each tail
abbrev pub with_levels : ℕ → ℕ → List Tail → List Tail
with_levels left right tails = map (λ tail. (left, right) ∷ tail) tails

-- the tails that begin with these two levels, where `rest` gives what may follow
abbrev pub option_tails : (Stage → List Tail) → Stage → ℕ → ℕ → List Tail
option_tails rest stage left right = option_map_or (λ next. with_levels left right (rest next)) (stage_after stage left right) []

-- the tails that begin with a difference on a criterion of n levels
abbrev pub row_tails : (Stage → List Tail) → Stage → ℕ → ℕ → List Tail
row_tails rest stage n left = flat_map (option_tails rest stage left) (range_with_len 1 n)

abbrev pub differing_tails : (Stage → List Tail) → Stage → ℕ → List Tail
differing_tails rest stage n = flat_map (row_tails rest stage n) (range_with_len 1 n)

-- all ways to go on: this many criteria are still to differ, and in the end each side is higher somewhere
abbrev pub tails : List ℕ → ℕ → Stage → List Tail
tails [] zero Same = []
tails [] zero Left = []
tails [] zero Both = [] ∷ []
tails [] (suc d) stage = []
tails (n ∷ levels) zero stage = with_levels 0 0 (tails levels zero stage)
tails (n ∷ levels) (suc d) stage = differing_tails (λ next. tails levels d next) stage n ++ with_levels 0 0 (tails levels (suc d) stage)

-- the pair with these first levels and that tail
abbrev pub joined : List ℕ → List ℕ → Tail → Pair
joined left right tail = record { left = left ++ map (λ p. p.0) tail; right = right ++ map (λ p. p.1) tail }

-- a walk within these criteria, with levels that a pair can hold
pub record IsWalk (counts : List ℕ) (walk : Walk) : Type 0 where
  pub some : 1 ≤ length counts
  pub most : length counts ≤ MAX_INCREMENTS
  pub levels : All (λ n. n ≤ MAX_LEVEL) counts
  pub place : walk.place ≤ length counts
  pub left : All (λ n. n ≤ MAX_LEVEL) (take walk.place walk.left)
  pub right : All (λ n. n ≤ MAX_LEVEL) (take walk.place walk.right)

-- the pairs in which the walk goes on so
abbrev pub pairs_from : Walk → List Tail → List Pair
pairs_from walk ways = map (joined (take walk.place walk.left) (take walk.place walk.right)) ways

-- the pairs that the walk finds
abbrev pub found_from : List ℕ → Walk → List Pair
found_from counts walk = pairs_from walk (tails (drop walk.place counts) walk.rest walk.stage)

-- those with this level on the left side of the next criterion
abbrev pub found_with : List ℕ → Walk → ℕ → ℕ → List Pair
found_with counts walk n left = pairs_from walk (row_tails (λ next. tails (drop (walk.place + 1) counts) (walk.rest - 1) next) walk.stage n left)

-- all of degree 2 up to the limit
abbrev pub listed_classes : List ℕ → ℕ → List Pair
listed_classes counts limit = flat_map (λ d. map (joined [] []) (tails counts d Same)) (range_with_len 2 (limit - 1))
