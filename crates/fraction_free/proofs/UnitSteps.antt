-- Steps where the pivot's entry and the old scale are 1.
use Rattle.std.proofs.Common.{◌≡◌, ◌∙◌, ◌<◌, ◌^◌, ℤ, pos, ◌-ℤ◌, ◌*ℤ◌, unsigned_abs, FitsSigned, to_z, of_z, sym, ap, arith}
use Rattle.std.specs.Int.{w128}
use Rattle.std.proofs.lemmas.Int.{ints, fits_signed_from_abs}
use Rattle.wide_step.specs.Quotient.{HasQuotient}
use Rattle.row_laws.proofs.Integers.{read_back}

pub small_back : (z : ℤ) → unsigned_abs z < 2 ^ 126 → to_z w128 (of_z w128 z) ≡ z
small_back z h = read_back w128 z (omega arith)

quotient_step : (q x p : ℤ) → q *ℤ pos 1 ≡ pos 1 *ℤ x -ℤ p → q ≡ x -ℤ p
quotient_step q x p h = omega (arith, ints)

product_size : (q x p : ℤ) → q ≡ x -ℤ p → unsigned_abs x < 2 ^ 89 → unsigned_abs q < 2 ^ 126 → unsigned_abs p < 2 ^ 127
product_size q x p e h k = omega (arith, ints)

-- the quotient is the difference
pub unit_quotient : (a x f y s q : ℤ) → a ≡ pos 1 → s ≡ pos 1 → q *ℤ s ≡ a *ℤ x -ℤ f *ℤ y → q ≡ x -ℤ f *ℤ y
unit_quotient a x f y s q e g h =
    quotient_step q x (f *ℤ y) (ap (λ (n : ℤ). q *ℤ n) (sym g) ∙ h ∙ ap (λ (n : ℤ). n *ℤ x -ℤ f *ℤ y) e)

-- the difference, as the code computes it
abbrev pub unit_step : ℤ → ℤ → ℤ → ℤ
unit_step x f y = to_z w128 (of_z w128 x) -ℤ to_z w128 (of_z w128 (to_z w128 (of_z w128 f) *ℤ to_z w128 (of_z w128 y)))

pub unit_step_is : (a x f y s : ℤ) → a ≡ pos 1 → s ≡ pos 1 → unsigned_abs x < 2 ^ 89 → unsigned_abs f < 2 ^ 89 → unsigned_abs y < 2 ^ 89 → (h : HasQuotient (a *ℤ x -ℤ f *ℤ y) s)
    → unit_step x f y ≡ h.quotient
unit_step_is a x f y s e g x_size f_size y_size h =
    let is = unit_quotient a x f y s h.quotient e g h.exact in
    let product : to_z w128 (of_z w128 (f *ℤ y)) ≡ f *ℤ y = read_back w128 (f *ℤ y) (product_size h.quotient x (f *ℤ y) is x_size h.size) in
    rw (small_back f (omega arith), small_back y (omega arith), small_back x (omega arith), product) (sym is)

pub unit_step_fits : (a x f y s : ℤ) → a ≡ pos 1 → s ≡ pos 1 → unsigned_abs x < 2 ^ 89 → unsigned_abs f < 2 ^ 89 → unsigned_abs y < 2 ^ 89 → HasQuotient (a *ℤ x -ℤ f *ℤ y) s
    → FitsSigned w128 (unit_step x f y)
unit_step_fits a x f y s e g x_size f_size y_size h = rw (unit_step_is a x f y s e g x_size f_size y_size h) (fits_signed_from_abs w128 h.quotient (let size = h.size in omega arith))
