-- Written pairs: two lists of levels, with 0 on both sides where a criterion is cancelled.
use Rattle.std.specs.Prelude.{◌≡◌, ◌⊎◌, ℕ, ◌<◌, ◌≤◌, List, length, slice_index, EachIndex, SomeIndex}
use Rattle.criteria_model.specs.declared.pairs.Pair.{Pair}

-- at one place of a written pair: cancelled on both sides, or a level on both
abbrev pub FitsAt : ℕ → ℕ → ℕ → Type 0
FitsAt n left right = ((left ≡ 0) × (right ≡ 0)) ⊎ ((1 ≤ left) × (left ≤ n) × (1 ≤ right) × (right ≤ n))

-- a written pair of a model with these levels
pub record IsFit (levels : List ℕ) (pair : Pair) : Type 0 where
  pub left_len : length pair.left ≡ length levels
  pub right_len : length pair.right ≡ length levels
  pub places : EachIndex levels (λ k. FitsAt (slice_index levels k) (slice_index pair.left k) (slice_index pair.right k))

-- each place on which the two sides agree is 0
abbrev pub IsCancelled : List ℕ → List ℕ → Type 0
IsCancelled a b = EachIndex a (λ k. slice_index a k ≡ slice_index b k → slice_index a k ≡ 0)

-- the first is higher on the first criterion on which they differ
abbrev pub IsLeftFirst : List ℕ → List ℕ → Type 0
IsLeftFirst a b = SomeIndex a (λ k. ((j : ℕ) → j < k → slice_index a j ≡ slice_index b j) × (slice_index b k < slice_index a k))

-- the pair with its sides exchanged
abbrev pub turned : Pair → Pair
turned pair = record { left = pair.right; right = pair.left }

-- at one criterion: both pairs agree there, or both have the same two levels there
abbrev pub AreReplicasAt : Pair → Pair → ℕ → Type 0
AreReplicasAt p q k =
    ((slice_index p.left k ≡ slice_index p.right k) × (slice_index q.left k ≡ slice_index q.right k))
    ⊎ ((slice_index p.left k ≡ slice_index q.left k) × (slice_index p.right k ≡ slice_index q.right k))

-- two pairs that differ on the same criteria, with the same levels there
pub record AreReplicas (levels : List ℕ) (p q : Pair) : Type 0 where
  pub left_len : length p.left ≡ length levels
  pub right_len : length p.right ≡ length levels
  pub other_left_len : length q.left ≡ length levels
  pub other_right_len : length q.right ≡ length levels
  pub places : EachIndex levels (AreReplicasAt p q)
