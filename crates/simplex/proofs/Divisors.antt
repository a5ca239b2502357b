-- Steps of a greatest common divisor of a list.
use Rattle.std.proofs.Common.{◌≡◌, ℕ, ◌+◌, ◌<◌, List, get_or, ℤ, pos, unsigned_abs, sym, subst, arith, below_more}
use Rattle.std.specs.Int.{◌∣◌, IsGcd}
use Rattle.std.proofs.lemmas.Nat.Gcd.{dvd_trans}

pub divides_more : (values : List ℤ) (i g r : ℕ) (v : ℤ) → v ≡ get_or values i (pos 0) → IsGcd g (unsigned_abs v) r
    → ((k : ℕ) → k < i → g ∣ unsigned_abs (get_or values k (pos 0)))
    → (k : ℕ) → k < i + 1 → r ∣ unsigned_abs (get_or values k (pos 0))
divides_more values i g r v e is before =
    below_more (λ k. r ∣ unsigned_abs (get_or values k (pos 0))) i (λ k lt. dvd_trans r is.0 (before k lt)) (subst (λ (n : ℤ). r ∣ unsigned_abs n) e is.1)

pub greatest_more : (values : List ℤ) (i g r : ℕ) (v : ℤ) → v ≡ get_or values i (pos 0) → IsGcd g (unsigned_abs v) r
    → ((d : ℕ) → ((k : ℕ) → k < i → d ∣ unsigned_abs (get_or values k (pos 0))) → d ∣ g)
    → (d : ℕ) → ((k : ℕ) → k < i + 1 → d ∣ unsigned_abs (get_or values k (pos 0))) → d ∣ r
greatest_more values i g r v e is before d each =
    is.2 d (before d (λ k lt. each k (omega arith))) (subst (λ (n : ℤ). d ∣ unsigned_abs n) (sym e) (each i (omega arith)))
