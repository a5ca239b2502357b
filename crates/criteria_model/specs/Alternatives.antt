-- Alternatives, dominance and degree (PAPRIKA: Hansen and Ombler 2008). An alternative is a list with
-- one level for each criterion; levels count from 1, the lowest.
use Rattle.std.specs.Prelude.{◌≡◌, ◌≢◌, ◌⊎◌, ℕ, ◌<◌, ◌≤◌, max, List, length, map, zip, not, ◌==◌, count_by, slice_index, EachIndex, SomeIndex}
use Rattle.criteria_model.specs.declared.pairs.Dominance.{Dominance}
use Rattle.criteria_model.specs.declared.pairs.Dominance.TheVariants.{Same, LeftHigher, RightHigher, Neither}

-- a level of each criterion
pub record IsAlternative (levels alternative : List ℕ) : Type 0 where
  pub len : length alternative ≡ length levels
  pub low : EachIndex levels (λ k. 1 ≤ slice_index alternative k)
  pub high : EachIndex levels (λ k. slice_index alternative k ≤ slice_index levels k)

-- level 1 at each place that is 0
abbrev pub filled : List ℕ → List ℕ
filled alternative = map (λ level. max 1 level) alternative

-- at least as high on every criterion
abbrev pub IsAtLeast : List ℕ → List ℕ → Type 0
IsAtLeast a b = EachIndex a (λ k. slice_index b k ≤ slice_index a k)

-- higher on some criterion
abbrev pub IsSomewhereHigher : List ℕ → List ℕ → Type 0
IsSomewhereHigher a b = SomeIndex a (λ k. slice_index b k < slice_index a k)

-- they differ, and one of them is at least as high on every criterion
abbrev pub IsDominated : List ℕ → List ℕ → Type 0
IsDominated a b = (a ≢ b) × (IsAtLeast a b ⊎ IsAtLeast b a)

-- each is higher than the other on some criterion
abbrev pub IsUndominated : List ℕ → List ℕ → Type 0
IsUndominated a b = IsSomewhereHigher a b × IsSomewhereHigher b a

-- which of the two dominates the other, if one does
abbrev pub HasDominance : List ℕ → List ℕ → Dominance → Type 0
HasDominance a b Same = a ≡ b
HasDominance a b LeftHigher = (a ≢ b) × IsAtLeast a b
HasDominance a b RightHigher = (a ≢ b) × IsAtLeast b a
HasDominance a b Neither = IsUndominated a b

-- on how many criteria they differ
abbrev pub degree : List ℕ → List ℕ → ℕ
degree a b = count_by (λ p. not (p.0 == p.1)) (zip a b)
