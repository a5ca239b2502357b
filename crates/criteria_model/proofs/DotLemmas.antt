-- The step of a sum of products in 128 bits.
use Rattle.std.proofs.Common.{◌≡◌, ℕ, ◌+◌, ◌*◌, ◌^◌, ◌≤◌, ◌<◌, ℤ, ◌+ℤ◌, ◌*ℤ◌, unsigned_abs, SFits, to_z, of_z, refl, ◌∙◌, arith, mul-le-mul_left}
use mir.Syntax.{w128}
use Rattle.std.proofs.lemmas.Int.{unsigned_abs-mul, fits_signed_from_abs, to_z-of_z}
use Rattle.row_laws.proofs.Integers.{unsigned_abs-add}

pub term_size : (x f : ℤ) → unsigned_abs x < 2 ^ 96 → unsigned_abs f ≤ 1 → unsigned_abs (x *ℤ f) < 2 ^ 96
term_size x f h k = omega (arith, unsigned_abs-mul x f, mul-le-mul_left (unsigned_abs x) k)

pub term_is : (x f : ℤ) → unsigned_abs x < 2 ^ 96 → unsigned_abs f ≤ 1 → to_z w128 (of_z w128 x) *ℤ to_z w128 (of_z w128 f) ≡ x *ℤ f
term_is x f h k =
    let p : SFits w128 x = fits_signed_from_abs w128 x (omega arith) in
    let q : SFits w128 f = fits_signed_from_abs w128 f (omega arith) in
    simp to_z-of_z

pub term_fits : (x f : ℤ) → unsigned_abs x < 2 ^ 96 → unsigned_abs f ≤ 1 → SFits w128 (to_z w128 (of_z w128 x) *ℤ to_z w128 (of_z w128 f))
term_fits x f h k = rw (term_is x f h k) (fits_signed_from_abs w128 (x *ℤ f) (omega (arith, term_size x f h k)))

-- the sum and the next term, as the code computes it
abbrev pub next_sum : ℤ → ℤ → ℤ → ℤ
next_sum s x f = s +ℤ to_z w128 (of_z w128 (to_z w128 (of_z w128 x) *ℤ to_z w128 (of_z w128 f)))

pub next_sum_is : (s x f : ℤ) → unsigned_abs x < 2 ^ 96 → unsigned_abs f ≤ 1 → next_sum s x f ≡ s +ℤ x *ℤ f
next_sum_is s x f h k =
    let p : SFits w128 (x *ℤ f) = fits_signed_from_abs w128 (x *ℤ f) (omega (arith, term_size x f h k)) in
    rw (term_is x f h k) (rw (to_z-of_z w128 (x *ℤ f) p) refl)

pub next_sum_size : (n : ℕ) (s x f : ℤ) → unsigned_abs s ≤ n * 2 ^ 96 → unsigned_abs x < 2 ^ 96 → unsigned_abs f ≤ 1
    → unsigned_abs (s +ℤ x *ℤ f) ≤ (n + 1) * 2 ^ 96
next_sum_size n s x f g h k = omega (arith, unsigned_abs-add s (x *ℤ f), term_size x f h k)

pub next_sum_fits : (n : ℕ) (s x f : ℤ) → n < 24 → unsigned_abs s ≤ n * 2 ^ 96 → unsigned_abs x < 2 ^ 96 → unsigned_abs f ≤ 1
    → SFits w128 (next_sum s x f)
next_sum_fits n s x f l g h k = rw (next_sum_is s x f h k) (fits_signed_from_abs w128 (s +ℤ x *ℤ f) (omega (arith, next_sum_size n s x f g h k)))

pub total_is : (n : ℕ) (s x f : ℤ) → n < 24 → unsigned_abs s ≤ n * 2 ^ 96 → unsigned_abs x < 2 ^ 96 → unsigned_abs f ≤ 1
    → to_z w128 (of_z w128 (next_sum s x f)) ≡ s +ℤ x *ℤ f
total_is n s x f l g h k = to_z-of_z w128 (next_sum s x f) (next_sum_fits n s x f l g h k) ∙ next_sum_is s x f h k
