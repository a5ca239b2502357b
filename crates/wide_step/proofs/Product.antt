-- What the loop of `product` keeps: the sum so far, and what the doubled factor still has to give.
use Rattle.std.proofs.Common.{◌≡◌, ℕ, ◌+◌, ◌*◌, ◌/◌, ◌%◌, ◌≤◌, ℤ, pos, ◌+ℤ◌, ◌*ℤ◌, ap, arith}
use Rattle.std.proofs.lemmas.Int.{ints}
use Rattle.wide_step.specs.declared.divided.Divided.{Divided}
use Rattle.wide_step.specs.Divided.{IsDivided}
use Rattle.row_laws.proofs.Integers.{add-mul}
use borrow.Author.Differences.{up, down}

pub record IsPartial (product : ℤ) (divisor : ℕ) (sum unit : Divided) (rest : ℕ) : Type 0 where
  pub sum_number : ℤ
  pub unit_number : ℤ
  pub sum_is : IsDivided sum_number divisor sum
  pub unit_is : IsDivided unit_number divisor unit
  pub total : sum_number +ℤ unit_number *ℤ pos rest ≡ product

-- a round keeps the total: at an odd number of times the doubled factor goes into the sum
pub odd_total : (s u p : ℤ) (rest : ℕ) → rest % 2 ≡ 1 → s +ℤ u *ℤ pos rest ≡ p → (s +ℤ u) +ℤ (u +ℤ u) *ℤ pos (rest / 2) ≡ p
odd_total s u p rest odd h =
    let e : rest ≡ rest / 2 + rest / 2 + 1 = omega arith in
    rw (add-mul u u (pos (rest / 2)))
    (omega (arith, ints, ap (λ n. up u * n) e, ap (λ n. down u * n) e))

pub even_total : (s u p : ℤ) (rest : ℕ) → ¬ (rest % 2 ≡ 1) → s +ℤ u *ℤ pos rest ≡ p → s +ℤ (u +ℤ u) *ℤ pos (rest / 2) ≡ p
even_total s u p rest even h =
    let e : rest ≡ rest / 2 + rest / 2 = omega arith in
    rw (add-mul u u (pos (rest / 2)))
    (omega (arith, ints, ap (λ n. up u * n) e, ap (λ n. down u * n) e))

pub end_total : (s u p : ℤ) (rest : ℕ) → rest ≤ 0 → s +ℤ u *ℤ pos rest ≡ p → s ≡ p
end_total s u p rest h t =
    let e : rest ≡ 0 = omega arith in
    omega (arith, ints, ap (λ n. up u * n) e, ap (λ n. down u * n) e)
