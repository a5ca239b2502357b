-- Classes and their list. Degree, replicas and classes are worded for this project.
use Rattle.std.specs.Prelude.{◌≡◌, ◌↔◌, ℕ, ◌≤◌, List, [], ◌∷◌, zip, ◌==◌, if◌then◌else◌, flat_map, AllPairs, Contains}
use Rattle.std.specs.Ordering.{nat_cmp}
use Rattle.std.specs.declared.cmp.Ordering.TheVariants.{Less}
use Rattle.std.specs.Cmp.Lexicographic.{slice_cmp}
use Rattle.criteria_model.specs.declared.limits.TheConstants.{MAX_LEVEL}
use Rattle.criteria_model.specs.declared.pairs.Pair.{Pair}
use Rattle.criteria_model.specs.Alternatives.{IsUndominated, filled, degree}
use Rattle.criteria_model.specs.Pairs.{IsFit, IsCancelled, IsLeftFirst}
use Rattle.criteria_model.specs.Criteria.{Criteria}

-- a written pair that stands for an undominated pair within the degree limit, and for its replicas
pub record IsClass (criteria : Criteria) (pair : Pair) : Type 0 where
  pub fits : IsFit criteria.levels pair
  pub cancelled : IsCancelled pair.left pair.right
  pub left_first : IsLeftFirst pair.left pair.right
  pub undominated : IsUndominated (filled pair.left) (filled pair.right)
  pub within : degree pair.left pair.right ≤ criteria.degree

-- a level as the order reads it: a cancelled place counts as the highest level
abbrev pub order_level : ℕ → ℕ
order_level level = if level == 0 then MAX_LEVEL else level

-- what the order compares: the degree, then criterion by criterion the left and the right level
abbrev pub order_key : Pair → List ℕ
order_key pair = degree pair.left pair.right ∷ flat_map (λ p. order_level p.0 ∷ order_level p.1 ∷ []) (zip pair.left pair.right)

-- the first pair stands before the second
abbrev pub ComesBefore : Pair → Pair → Type 0
ComesBefore p q = slice_cmp nat_cmp (order_key p) (order_key q) ≡ Less

-- the list of all classes in their order; since the order is strict, each stands there once
pub record IsClassList (criteria : Criteria) (classes : List Pair) : Type 0 where
  pub members : (pair : Pair) → Contains classes pair ↔ IsClass criteria pair
  pub ordered : AllPairs ComesBefore classes
