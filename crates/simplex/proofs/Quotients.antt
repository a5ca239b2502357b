-- A list over its greatest common divisor.
use Rattle.std.proofs.Common.{◌≡◌, ℕ, zero, suc, ◌+◌, ◌*◌, ◌/◌, ◌^◌, ◌<◌, ◌≤◌, List, length, get_or, take, ℤ, pos, negsuc, neg_ℤ, ◌*ℤ◌, ◌≤ℤ◌, unsigned_abs, FitsSigned, to_z, of_z, refl, sym, ap, subst, ◌∙◌, arith, mul-le-mul_left, below_more}
use mir.Syntax.{w128}
use lib.Signed.{quot_z}
use Rattle.std.specs.Prelude.{All, slice_set}
use Rattle.std.specs.Int.{◌∣◌}
use Rattle.std.proofs.Math.Nat.{mul-div_cancel', mul-dvd-mul_left, eq-zero_of_zero-dvd}
use Rattle.std.proofs.Math.IntN.{*ℤ_comm}
use Rattle.std.proofs.lemmas.Nat.Gcd.{le_of_dvd}
use Rattle.std.proofs.lemmas.Int.{ints, unsigned_abs-mul}
use Rattle.std.proofs.lemmas.List.{ext_get_or, get_or-map, get_or-take, get_or-set_same, get_or-set_other, length-map, length-take-le}
use Rattle.std.proofs.lemmas.List.Elements.{All-from_get_or}
use borrow.Author.Differences.{product_is}
use Rattle.row_laws.proofs.Integers.{mul-neg}
use Rattle.criteria_model.specs.Lists.{IsVector}
use Rattle.row_laws.specs.Rows.{times}
use Rattle.row_laws.proofs.Signs.{mul_nonpos}
use Rattle.simplex.specs.Rows.{IsCoprime}
use Rattle.simplex.proofs.Sizes.{kept, fits}

pub exact : (v g : ℤ) → pos 1 ≤ℤ g → unsigned_abs g ∣ unsigned_abs v → g *ℤ quot_z v g ≡ v
exact (pos v) (pos g) hg d = product (mul-div_cancel' g d)
  where
    product : g * (v / g) ≡ v → pos g *ℤ pos (v / g) ≡ pos v
    product e = omega (arith, ints, product_is (pos g) (pos (v / g)), e)
exact (negsuc v) (pos g) hg d = mul-neg (pos g) (pos (suc v / g)) ∙ product (mul-div_cancel' g d)
  where
    product : g * (suc v / g) ≡ suc v → neg_ℤ (pos g *ℤ pos (suc v / g)) ≡ negsuc v
    product e = omega (arith, ints, product_is (pos g) (pos (suc v / g)), e)
exact v (negsuc g) hg d = absurd (omega (arith, ints))

-- a factor is no greater in size than the product
pub factor_small : (g q v : ℤ) → pos 1 ≤ℤ g → g *ℤ q ≡ v → unsigned_abs q ≤ unsigned_abs v
factor_small (negsuc g) q v h e = absurd (omega (arith, ints))
factor_small (pos g) q v h e =
    let size : unsigned_abs v ≡ g * unsigned_abs q = ap unsigned_abs (sym e) ∙ unsigned_abs-mul (pos g) q in
    let some : 1 ≤ g = omega (arith, ints) in
    omega (arith, size, at_least (unsigned_abs q) g some)
  where
    at_least : (a b : ℕ) → 1 ≤ b → a ≤ b * a
    at_least a b h = grind arith

casts_away : (v g : ℤ) → unsigned_abs v < 2 ^ 96 → unsigned_abs g < 2 ^ 126 → quot_z (to_z w128 (of_z w128 v)) (to_z w128 (of_z w128 g)) ≡ quot_z v g
casts_away v g hv hg = ap (λ (n : ℤ). quot_z n (to_z w128 (of_z w128 g))) (kept v (omega arith)) ∙ ap (quot_z v) (kept g hg)

pub quotient_fits : (v g : ℤ) → unsigned_abs v < 2 ^ 96 → pos 1 ≤ℤ g → unsigned_abs g < 2 ^ 126 → unsigned_abs g ∣ unsigned_abs v
    → FitsSigned w128 (quot_z (to_z w128 (of_z w128 v)) (to_z w128 (of_z w128 g)))
quotient_fits v g hv pg hg d =
    let small : unsigned_abs (quot_z v g) ≤ unsigned_abs v = factor_small g (quot_z v g) v pg (exact v g pg d) in
    subst (λ (n : ℤ). FitsSigned w128 n) (sym (casts_away v g hv hg)) (fits (quot_z v g) (omega arith))

pub quotient_is : (v g : ℤ) → unsigned_abs v < 2 ^ 96 → pos 1 ≤ℤ g → unsigned_abs g < 2 ^ 126 → unsigned_abs g ∣ unsigned_abs v
    → to_z w128 (of_z w128 g) *ℤ to_z w128 (of_z w128 (quot_z (to_z w128 (of_z w128 v)) (to_z w128 (of_z w128 g)))) ≡ v
quotient_is v g hv pg hg d =
    let small : unsigned_abs (quot_z v g) ≤ unsigned_abs v = factor_small g (quot_z v g) v pg (exact v g pg d) in
    ap (λ (n : ℤ). n *ℤ to_z w128 (of_z w128 (quot_z (to_z w128 (of_z w128 v)) (to_z w128 (of_z w128 g))))) (kept g hg)
    ∙ ap (λ (n : ℤ). g *ℤ to_z w128 (of_z w128 n)) (casts_away v g hv hg)
    ∙ ap (λ (n : ℤ). g *ℤ n) (kept (quot_z v g) (omega arith))
    ∙ exact v g pg d

pub divisor_positive : (values : List ℤ) (g : ℤ) → 1 ≤ length values → All (λ x. pos 1 ≤ℤ x) values → pos 0 ≤ℤ g → All (λ x. unsigned_abs g ∣ unsigned_abs x) values → pos 1 ≤ℤ g
divisor_positive values (negsuc g) some positive nonneg divides = absurd (omega (arith, ints))
divisor_positive values (pos (suc g)) some positive nonneg divides = omega (arith, ints)
divisor_positive values (pos zero) some positive nonneg divides =
    let none : unsigned_abs (get_or values 0 (pos 0)) ≡ 0 = eq-zero_of_zero-dvd (divides 0 (pos 0) some) in
    absurd (contradict (get_or values 0 (pos 0)) none (positive 0 (pos 0) some))
  where
    contradict : (a : ℤ) → unsigned_abs a ≡ 0 → pos 1 ≤ℤ a → ⊥
    contradict (pos a) e h = omega (arith, ints)
    contradict (negsuc a) e h = omega (arith, ints)

pub not_zero_bits : (g : ℤ) → pos 1 ≤ℤ g → 0 < of_z w128 g
not_zero_bits (pos g) h = omega (arith, ints)
not_zero_bits (negsuc g) h = absurd (omega (arith, ints))

pub quotient_step : (values cells : List ℤ) (g q : ℤ) (place : ℕ) → place < length cells → g *ℤ q ≡ get_or values place (pos 0)
    → ((k : ℕ) → k < place → g *ℤ get_or cells k (pos 0) ≡ get_or values k (pos 0))
    → (k : ℕ) → k < place + 1 → g *ℤ get_or (slice_set cells place q) k (pos 0) ≡ get_or values k (pos 0)
quotient_step values cells g q place lt here before =
    below_more (λ k. g *ℤ get_or (slice_set cells place q) k (pos 0) ≡ get_or values k (pos 0)) place
    (λ k l. ap (λ (n : ℤ). g *ℤ n) (get_or-set_other cells place k q (pos 0) (omega arith)) ∙ before k l)
    (ap (λ (n : ℤ). g *ℤ n) (get_or-set_same cells place q (pos 0) lt) ∙ here)

pub multiple_is : (values cells : List ℤ) (g : ℤ) → length cells ≡ 24 → length values ≤ 24
    → ((k : ℕ) → k < length values → g *ℤ get_or cells k (pos 0) ≡ get_or values k (pos 0))
    → values ≡ times g (take (length values) cells)
multiple_is values cells g len most each =
    let short : length (take (length values) cells) ≡ length values = length-take-le (length values) cells (omega arith) in
    ext_get_or (pos 0) values (times g (take (length values) cells))
    (sym (length-map (take (length values) cells) (λ x. g *ℤ x) ∙ short))
    (λ k lt. sym (get_or-map (λ x. g *ℤ x) (take (length values) cells) k (pos 0) (pos 0) (omega (arith, short)) ∙ ap (λ (n : ℤ). g *ℤ n) (get_or-take (length values) cells k (pos 0) lt) ∙ each k lt))

-- its items, where the list is a multiple
item_of : (values result : List ℤ) (g : ℤ) → values ≡ times g result → (k : ℕ) → k < length result → get_or values k (pos 0) ≡ g *ℤ get_or result k (pos 0)
item_of values result g e k lt = ap (λ (l : List ℤ). get_or l k (pos 0)) e ∙ get_or-map (λ x. g *ℤ x) result k (pos 0) (pos 0) lt

len_of : (values result : List ℤ) (g : ℤ) → values ≡ times g result → length values ≡ length result
len_of values result g e = ap length e ∙ length-map result (λ x. g *ℤ x)

pub multiple_is_vector : (values result : List ℤ) (g : ℤ) → IsVector values → pos 1 ≤ℤ g → values ≡ times g result → IsVector result
multiple_is_vector values result g is pg e =
    let len : length values ≡ length result = len_of values result g e in
    record {
      some = omega (arith, len, is.some);
      most = omega (arith, len, is.most);
      within = All-from_get_or (λ x. unsigned_abs x < 2 ^ 96) result (pos 0) (λ k lt.
          let small : unsigned_abs (get_or result k (pos 0)) ≤ unsigned_abs (get_or values k (pos 0)) = factor_small g (get_or result k (pos 0)) (get_or values k (pos 0)) pg (sym (item_of values result g e k lt)) in
          let bound : unsigned_abs (get_or values k (pos 0)) < 2 ^ 96 = is.within k (pos 0) (omega (arith, len)) in
          omega arith);
    }

pub positive_factor : (g q v : ℤ) → pos 1 ≤ℤ g → pos 1 ≤ℤ v → v ≡ g *ℤ q → pos 1 ≤ℤ q
positive_factor g (pos (suc q)) v pg pv e = omega (arith, ints)
positive_factor g (pos zero) v pg pv e = absurd (impossible (pos zero *ℤ g) v (mul_nonpos (pos zero) g (omega (arith, ints)) (weak g pg)) pv (e ∙ *ℤ_comm g (pos zero)))
  where
    impossible : (a v : ℤ) → a ≤ℤ pos 0 → pos 1 ≤ℤ v → v ≡ a → ⊥
    impossible a v h k e = omega (arith, ints)

    weak : (g : ℤ) → pos 1 ≤ℤ g → pos 0 ≤ℤ g
    weak g h = omega (arith, ints)
positive_factor g (negsuc q) v pg pv e = absurd (impossible (negsuc q *ℤ g) v (mul_nonpos (negsuc q) g (omega (arith, ints)) (weak g pg)) pv (e ∙ *ℤ_comm g (negsuc q)))
  where
    impossible : (a v : ℤ) → a ≤ℤ pos 0 → pos 1 ≤ℤ v → v ≡ a → ⊥
    impossible a v h k e = omega (arith, ints)

    weak : (g : ℤ) → pos 1 ≤ℤ g → pos 0 ≤ℤ g
    weak g h = omega (arith, ints)

pub multiple_is_positive : (values result : List ℤ) (g : ℤ) → All (λ x. pos 1 ≤ℤ x) values → pos 1 ≤ℤ g → values ≡ times g result → All (λ x. pos 1 ≤ℤ x) result
multiple_is_positive values result g positive pg e =
    let len : length values ≡ length result = len_of values result g e in
    All-from_get_or (λ x. pos 1 ≤ℤ x) result (pos 0) (λ k lt.
    positive_factor g (get_or result k (pos 0)) (get_or values k (pos 0)) pg (positive k (pos 0) (omega (arith, len))) (item_of values result g e k lt))

no_greater : (g d : ℕ) → 1 ≤ g → (g * d) ∣ g → d ≡ 1
no_greater g zero some h = let z : g * 0 ≡ 0 = omega arith in let none : g ≡ 0 = eq-zero_of_zero-dvd (subst (λ (n : ℕ). n ∣ g) z h) in absurd (omega arith)
no_greater g (suc zero) some h = refl
no_greater g (suc (suc d)) some h =
    let le : g * suc (suc d) ≤ g = le_of_dvd some h in
    let more : g * 2 ≤ g * suc (suc d) = mul-le-mul_left g (omega arith) in
    absurd (omega arith)

pub quotient_is_coprime : (values result : List ℤ) (g : ℤ) → pos 1 ≤ℤ g → values ≡ times g result
    → ((d : ℕ) → All (λ x. d ∣ unsigned_abs x) values → d ∣ unsigned_abs g)
    → IsCoprime result
quotient_is_coprime values result (negsuc g) pg e greatest d divides = absurd (omega (arith, ints))
quotient_is_coprime values result (pos g) pg e greatest d divides =
    let len : length values ≡ length result = len_of values result (pos g) e in
    no_greater g d (omega (arith, ints))
    (greatest (g * d) (All-from_get_or (λ x. (g * d) ∣ unsigned_abs x) values (pos 0) (λ k lt.
    let l : k < length result = omega (arith, len) in
    subst (λ (n : ℕ). (g * d) ∣ n)
    (sym (ap unsigned_abs (item_of values result (pos g) e k l) ∙ unsigned_abs-mul (pos g) (get_or result k (pos 0))))
    (mul-dvd-mul_left d g (divides k (pos 0) l)))))
