-- Increments, value vectors and worths of the additive model (PAPRIKA: Hansen and Ombler 2008).
use Rattle.std.specs.Prelude.{◌≡◌, ℕ, ◌-◌, List, [], ◌∷◌, ◌++◌, length, map, sum_by, All, nat_lt, if◌then◌else◌, ℤ, pos, ◌≤ℤ◌}
use Rattle.std.specs.List.{range_with_len}
use Rattle.row_laws.specs.Rows.{dot}

-- how many increments there are: one between each two neighbouring levels of a criterion
abbrev pub increments : List ℕ → ℕ
increments levels = sum_by (λ n. n - 1) levels

-- 1 where a level lies above an increment of its criterion, else 0; level 0 has none, as level 1
abbrev pub lies_above : ℕ → ℕ → ℤ
lies_above level increment = if nat_lt increment level then pos 1 else pos 0

-- that for each increment of a criterion of n levels, from the lowest
abbrev pub has_on : ℕ → ℕ → List ℤ
has_on n level = map (lies_above level) (range_with_len 1 (n - 1))

-- for each increment, criterion by criterion, 1 where the alternative has it and else 0
abbrev pub has : List ℕ → List ℕ → List ℤ
has [] alternative = []
has (n ∷ levels) [] = []
has (n ∷ levels) (level ∷ alternative) = has_on n level ++ has levels alternative

-- a positive whole number for each increment
pub record IsValueVector (levels : List ℕ) (values : List ℤ) : Type 0 where
  pub len : length values ≡ increments levels
  pub positive : All (λ x. pos 1 ≤ℤ x) values

-- the sum of the values of the increments that the alternative has
abbrev pub worth : List ℕ → List ℤ → List ℕ → ℤ
worth levels values alternative = dot values (has levels alternative)
