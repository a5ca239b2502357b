-- Sums over the views of all seats.
use Rattle.std.proofs.Common.{◌≡◌, ◌≢◌, ℕ, zero, suc, ◌+◌, ◌<◌, ◌≤◌, ◌==◌, cond, List, [], ◌∷◌, ◌++◌, set, refl, ap, sym, arith}
use Rattle.std.specs.List.{range_with_len}
use Rattle.std.proofs.lemmas.Bool.Decides.{nat_tests}
use Rattle.std.proofs.lemmas.List.Sums.{sum_by-append, sum_by-cons}
use mathlib.Core.Option.{some, some-injective, some-ne-none}
use lib.ListN.{get_elem?}
use Rattle.turn_lock.specs.Rule.{sum_over, occurrences, one_between}

module _ {V : Type 0} where
  -- the sum after a change of one view
  pub sum_over_set : (f : V → ℕ) (vs : List V) (i : ℕ) (v w : V) → get_elem? vs i ≡ some v → sum_over f (set vs i w) + f v ≡ sum_over f vs + f w
  sum_over_set f [] i v w e = absurd (some-ne-none v (sym e))
  sum_over_set f (x ∷ xs) zero v w e = let p : f x ≡ f v = ap f (some-injective x v e) in omega arith
  sum_over_set f (x ∷ xs) (suc i) v w e = let p = sum_over_set f xs i v w e in omega arith

  pub sum_over_append : (f : V → ℕ) (vs : List V) (w : V) → sum_over f (vs ++ w ∷ []) ≡ sum_over f vs + f w
  sum_over_append f [] w = omega arith
  sum_over_append f (x ∷ xs) w = let p = sum_over_append f xs w in omega arith

  pub sum_over_member : (f : V → ℕ) (vs : List V) (i : ℕ) (v : V) → get_elem? vs i ≡ some v → f v ≤ sum_over f vs
  sum_over_member f [] i v e = absurd (some-ne-none v (sym e))
  sum_over_member f (x ∷ xs) zero v e = let p : f x ≡ f v = ap f (some-injective x v e) in omega arith
  sum_over_member f (x ∷ xs) (suc i) v e = let p = sum_over_member f xs i v e in omega arith

  -- two seats count twice
  pub sum_over_two : (f : V → ℕ) (vs : List V) (i j : ℕ) (v w : V) → i ≢ j → get_elem? vs i ≡ some v → get_elem? vs j ≡ some w → f v + f w ≤ sum_over f vs
  sum_over_two f [] i j v w n e d = absurd (some-ne-none v (sym e))
  sum_over_two f (x ∷ xs) zero zero v w n e d = absurd (n refl)
  sum_over_two f (x ∷ xs) zero (suc j) v w n e d = let p : f x ≡ f v = ap f (some-injective x v e) in let q = sum_over_member f xs j w d in omega arith
  sum_over_two f (x ∷ xs) (suc i) zero v w n e d = let p : f x ≡ f w = ap f (some-injective x w d) in let q = sum_over_member f xs i v e in omega arith
  sum_over_two f (x ∷ xs) (suc i) (suc j) v w n e d = let p = sum_over_two f xs i j v w (λ h. n (ap suc h)) e d in omega arith

  -- where f is no more than g at each seat
  pub sum_over_le : (f g : V → ℕ) (vs : List V) → ((i : ℕ) (v : V) → get_elem? vs i ≡ some v → f v ≤ g v) → sum_over f vs ≤ sum_over g vs
  sum_over_le f g [] h = omega arith
  sum_over_le f g (x ∷ xs) h = let p = h zero x refl in let q = sum_over_le f g xs (λ i v e. h (suc i) v e) in omega arith

  -- the same, where the gap at one seat is known
  pub sum_over_le_at : (f g : V → ℕ) (vs : List V) (i : ℕ) (v : V) → get_elem? vs i ≡ some v → ((j : ℕ) (w : V) → get_elem? vs j ≡ some w → f w ≤ g w)
      → sum_over f vs + g v ≤ sum_over g vs + f v
  sum_over_le_at f g [] i v e h = absurd (some-ne-none v (sym e))
  sum_over_le_at f g (x ∷ xs) zero v e h = let p : f x ≡ f v = ap f (some-injective x v e) in let p' : g x ≡ g v = ap g (some-injective x v e) in
      let q = sum_over_le f g xs (λ j w d. h (suc j) w d) in omega arith
  sum_over_le_at f g (x ∷ xs) (suc i) v e h = let p = h zero x refl in let q = sum_over_le_at f g xs i v e (λ j w d. h (suc j) w d) in omega arith

  sum_over_zero : (vs : List V) → sum_over (λ _. 0) vs ≡ 0
  sum_over_zero [] = refl
  sum_over_zero (x ∷ xs) = let p = sum_over_zero xs in omega arith

  -- where f is 0 at each other seat
  pub sum_over_only : (f : V → ℕ) (vs : List V) (i : ℕ) (v : V) → get_elem? vs i ≡ some v → ((j : ℕ) (w : V) → j ≢ i → get_elem? vs j ≡ some w → f w ≡ 0) → sum_over f vs ≡ f v
  sum_over_only f [] i v e h = absurd (some-ne-none v (sym e))
  sum_over_only f (x ∷ xs) zero v e h =
      let p : f x ≡ f v = ap f (some-injective x v e) in let z = sum_over_zero xs in
      let q = sum_over_le f (λ _. 0) xs (λ j w d. let n = h (suc j) w (λ n. absurd (omega arith)) d in omega arith) in omega arith
  sum_over_only f (x ∷ xs) (suc i) v e h = let p = h zero x (λ n. absurd (omega arith)) refl in
      let q = sum_over_only f xs i v e (λ j w n d. h (suc j) w (λ s. n (omega arith)) d) in omega arith

pub occurrences_append : (k : ℕ) (xs ys : List ℕ) → occurrences k (xs ++ ys) ≡ occurrences k xs + occurrences k ys
occurrences_append k xs ys = sum_by-append (λ other. cond (other == k) 1 0) xs ys

-- a range has each of its numbers once
pub occurrences_range : (k a n : ℕ) → occurrences k (range_with_len a n) ≡ one_between a (a + n) k
occurrences_range k a zero = grind (arith, nat_tests)
occurrences_range k a (suc n) =
    let p = occurrences_range k (a + 1) n in
    let q = sum_by-cons (λ other. cond (other == k) 1 0) a (range_with_len (a + 1) n) in grind (arith, nat_tests)

-- two ranges side by side
pub one_between_beside : (a b c k : ℕ) → a ≤ b → b ≤ c → one_between a b k + one_between b c k ≡ one_between a c k
one_between_beside a b c k l m = grind (arith, nat_tests)

pub one_between_le : (a b k : ℕ) → one_between a b k ≤ 1
one_between_le a b k = grind (arith, nat_tests)

pub one_between_inside : (a b k : ℕ) → 1 ≤ one_between a b k → (a ≤ k) × (k < b)
one_between_inside a b k h = grind (arith, nat_tests)
