-- The number of classes.
use Rattle.std.specs.Prelude.{ℕ, zero, suc, ◌+◌, ◌-◌, ◌*◌, ◌/◌, ◌^◌, List, [], ◌∷◌, sum_by}
use Rattle.std.specs.List.{range_with_len}

-- the sum, over the sets of d criteria, of the product of n (n - 1) / 2 over the set
abbrev pub level_pairs : ℕ → List ℕ → ℕ
level_pairs zero levels = 1
level_pairs (suc d) [] = 0
level_pairs (suc d) (n ∷ levels) = n * (n - 1) / 2 * level_pairs d levels + level_pairs (suc d) levels

-- how many classes of degree d there are: for each choice of two levels on d criteria, all ways to put the
-- higher levels left or right, but for those that are dominated, and up to the exchange of the sides
abbrev pub classes_of_degree : List ℕ → ℕ → ℕ
classes_of_degree levels d = (2 ^ (d - 1) - 1) * level_pairs d levels

-- the number of classes of degree 2 up to the limit
unfoldable pub class_count : List ℕ → ℕ → ℕ
class_count levels limit = sum_by (classes_of_degree levels) (range_with_len 2 (limit - 1))
