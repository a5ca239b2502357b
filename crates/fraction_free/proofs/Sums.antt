-- Sums and multiples that are small enough to be read from their bits as they were.
use Rattle.std.proofs.Common.{◌≡◌, ◌<◌, ◌≤◌, ◌*◌, ◌^◌, ℤ, ◌+ℤ◌, ◌*ℤ◌, unsigned_abs, to_z, of_z, FitsSigned, arith}
use Rattle.std.proofs.lemmas.Int.{unsigned_abs-mul, fits_signed_from_abs}
use Rattle.std.proofs.lemmas.Nat.{mul-le}
use Rattle.std.specs.Int.{w128}
use Rattle.row_laws.proofs.Integers.{read_back, unsigned_abs-add}

pub small_multiple : (t b : ℤ) → unsigned_abs t ≤ 25 → unsigned_abs b < 2 ^ 89 → unsigned_abs (t *ℤ b) ≤ 25 * 2 ^ 89
small_multiple t b h k = omega (arith, unsigned_abs-mul t b, mul-le (unsigned_abs t) (unsigned_abs b) 25 (2 ^ 89) h (omega arith))

pub sum_back : (g h t a b : ℤ) → g ≡ a → h ≡ b → unsigned_abs a < 2 ^ 100 → unsigned_abs b < 2 ^ 89 → unsigned_abs t ≤ 25
    → to_z w128 (of_z w128 (to_z w128 (of_z w128 g) +ℤ to_z w128 (of_z w128 (to_z w128 (of_z w128 t) *ℤ to_z w128 (of_z w128 h))))) ≡ a +ℤ t *ℤ b
sum_back g h t a b i j a_size b_size t_size =
    rw (i, j, read_back w128 a (omega arith), read_back w128 b (omega arith), read_back w128 t (omega arith), read_back w128 (t *ℤ b) (omega (arith, small_multiple t b t_size b_size)))
    (read_back w128 (a +ℤ t *ℤ b) (omega (arith, unsigned_abs-add a (t *ℤ b), small_multiple t b t_size b_size)))

pub product_fits : (h t b : ℤ) → h ≡ b → unsigned_abs b < 2 ^ 89 → unsigned_abs t ≤ 25 → FitsSigned w128 (to_z w128 (of_z w128 t) *ℤ to_z w128 (of_z w128 h))
product_fits h t b j b_size t_size =
    rw (j, read_back w128 b (omega arith), read_back w128 t (omega arith)) (fits_signed_from_abs w128 (t *ℤ b) (omega (arith, small_multiple t b t_size b_size)))

pub sum_fits : (g h t a b : ℤ) → g ≡ a → h ≡ b → unsigned_abs a < 2 ^ 100 → unsigned_abs b < 2 ^ 89 → unsigned_abs t ≤ 25
    → FitsSigned w128 (to_z w128 (of_z w128 g) +ℤ to_z w128 (of_z w128 (to_z w128 (of_z w128 t) *ℤ to_z w128 (of_z w128 h))))
sum_fits g h t a b i j a_size b_size t_size =
    rw (i, j, read_back w128 a (omega arith), read_back w128 b (omega arith), read_back w128 t (omega arith), read_back w128 (t *ℤ b) (omega (arith, small_multiple t b t_size b_size)))
    (fits_signed_from_abs w128 (a +ℤ t *ℤ b) (omega (arith, unsigned_abs-add a (t *ℤ b), small_multiple t b t_size b_size)))
