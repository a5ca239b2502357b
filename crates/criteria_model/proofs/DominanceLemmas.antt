-- Which of two lists of levels is higher somewhere, and what filling cancelled places changes.
use Rattle.std.proofs.Common.{◌≡◌, ◌≢◌, ◌⊎◌, inl, inr, ℕ, zero, suc, ◌≤◌, ◌<◌, max, List, [], ◌∷◌, length, get_or, ap, sym, ◌∙◌, arith}
use Rattle.std.proofs.lemmas.Bool.{cases_lt}
use Rattle.std.proofs.lemmas.List.{get_or-map, length-map, ext_get_or}
use Rattle.criteria_model.specs.declared.pairs.Pair.{Pair}
use Rattle.criteria_model.specs.Alternatives.{filled, IsAtLeast, IsSomewhereHigher}
use Rattle.criteria_model.specs.Pairs.{FitsAt, IsFit}
use Rattle.criteria_model.specs.Laws.{UndominatedIsNotDominated}

-- at a place of a written pair the higher level stays higher where both are filled
pub filled_higher_at : (n x y : ℕ) → FitsAt n x y → y < x → max 1 y < max 1 x
filled_higher_at n x y (inl none) h = absurd (omega (arith, none))
filled_higher_at n x y (inr both) h = omega (arith, both)

pub fits_at_turned : (n x y : ℕ) → FitsAt n x y → FitsAt n y x
fits_at_turned n x y (inl none) = inl (none.1, none.0)
fits_at_turned n x y (inr both) = inr (both.2, both.3, both.0, both.1)

pub get_or-filled : (a : List ℕ) (k : ℕ) → k < length a → get_or (filled a) k 0 ≡ max 1 (get_or a k 0)
get_or-filled a k l = get_or-map (λ level. max 1 level) a k 0 0 l

pub length-filled : (a : List ℕ) → length (filled a) ≡ length a
length-filled a = length-map a (λ level. max 1 level)

-- a written pair's sides, as two lists of one length
pub record AreWritten (levels a b : List ℕ) : Type 0 where
  pub len : length a ≡ length levels
  pub other_len : length b ≡ length levels
  pub places : (k : ℕ) → k < length levels → FitsAt (get_or levels k 0) (get_or a k 0) (get_or b k 0)

pub written : (levels : List ℕ) (pair : Pair) → IsFit levels pair → AreWritten levels pair.left pair.right
written levels pair h = record { len = h.left_len; other_len = h.right_len; places = h.places }

pub written_turned : (levels : List ℕ) (pair : Pair) → IsFit levels pair → AreWritten levels pair.right pair.left
written_turned levels pair h = record { len = h.right_len; other_len = h.left_len; places = λ k l. fits_at_turned (get_or levels k 0) (get_or pair.left k 0) (get_or pair.right k 0) (h.places k l) }

-- higher somewhere: as written, and filled
pub higher_filled : (levels a b : List ℕ) → AreWritten levels a b → IsSomewhereHigher a b → IsSomewhereHigher (filled a) (filled b)
higher_filled levels a b w (k, l, h) =
    let l' : k < length b = omega (arith, w.len, w.other_len) in
    let l'' : k < length levels = omega (arith, w.len) in
    (k, omega (arith, length-filled a), omega (arith, get_or-filled a k l, get_or-filled b k l', filled_higher_at _ _ _ (w.places k l'') h))

pub higher_unfilled : (a b : List ℕ) → length a ≡ length b → IsSomewhereHigher (filled a) (filled b) → IsSomewhereHigher a b
higher_unfilled a b e (k, l, h) =
    let l' : k < length a = omega (arith, length-filled a) in
    let l'' : k < length b = omega arith in
    (k, l', omega (arith, get_or-filled a k l', get_or-filled b k l''))

-- of two lists the first is higher somewhere, or the second is at least as high everywhere
pub not_higher : (a b : List ℕ) → length a ≡ length b → ¬ IsSomewhereHigher a b → IsAtLeast b a
not_higher a b e n k l = omega (arith, λ (h : get_or b k 0 < get_or a k 0). n (k, omega arith, h))

at_least_more : (x y : ℕ) (a b : List ℕ) → x ≤ y → IsAtLeast b a → IsAtLeast (y ∷ b) (x ∷ a)
at_least_more x y a b h r zero l = h
at_least_more x y a b h r (suc k) l = r k (omega arith)

pub higher_or_not : (a b : List ℕ) → length a ≡ length b → IsSomewhereHigher a b ⊎ IsAtLeast b a
higher_or_not [] [] e = inr (λ k l. absurd (omega arith))
higher_or_not [] (y ∷ b) e = absurd (omega arith)
higher_or_not (x ∷ a) [] e = absurd (omega arith)
higher_or_not (x ∷ a) (y ∷ b) e =
    elim (cases_lt y x) [
      | inl h ↦ inl (0, omega arith, h)
      | inr h ↦ elim (higher_or_not a b (omega arith)) [
        | inl r ↦ inl (suc r.0, omega (arith, r.1), r.2)
        | inr r ↦ inr (at_least_more x y a b h r)
      ]
    ]

-- neither is higher anywhere: they are equal
pub same_if_at_least : (a b : List ℕ) → length a ≡ length b → IsAtLeast a b → IsAtLeast b a → a ≡ b
same_if_at_least a b e h k = ext_get_or 0 a b e (λ i l. omega (arith, h i l, k i (omega arith)))

pub at_least_not_higher : (a b : List ℕ) → length a ≡ length b → IsAtLeast a b → ¬ IsSomewhereHigher b a
at_least_not_higher a b e h (k, l, p) = omega (arith, h k (omega arith))

pub higher_differs : (a b : List ℕ) → IsSomewhereHigher a b → a ≢ b
higher_differs a b (k, l, p) e = omega (arith, ap (λ xs. get_or xs k 0) e)

pub undominated_is_not_dominated_lem : UndominatedIsNotDominated
undominated_is_not_dominated_lem a b e = (
  λ u. (
    higher_differs a b u.0,
    λ d. elim d.1 [
      | inl h ↦ at_least_not_higher a b e h u.1
      | inr h ↦ at_least_not_higher b a (sym e) h u.0
    ],
  ),
  λ d. (
    elim (higher_or_not a b e) [ inl h ↦ h | inr h ↦ absurd (d.1 (d.0, inr h)) ],
    elim (higher_or_not b a (sym e)) [ inl h ↦ h | inr h ↦ absurd (d.1 (d.0, inl h)) ],
  ),
)

-- ---- the dominance of filled pairs, from the written levels
pub filled_same : (levels a b : List ℕ) → AreWritten levels a b → ¬ IsSomewhereHigher a b → ¬ IsSomewhereHigher b a → filled a ≡ filled b
filled_same levels a b w n m =
    let e : length a ≡ length b = w.len ∙ sym w.other_len in
    ap filled (same_if_at_least a b e (not_higher b a (sym e) m) (not_higher a b e n))

pub filled_higher : (levels a b : List ℕ) → AreWritten levels a b → IsSomewhereHigher a b → ¬ IsSomewhereHigher b a
    → (filled a ≢ filled b) × IsAtLeast (filled a) (filled b)
filled_higher levels a b w h n =
    let e : length a ≡ length b = w.len ∙ sym w.other_len in
    let f : length (filled b) ≡ length (filled a) = length-filled b ∙ sym e ∙ sym (length-filled a) in (
      higher_differs (filled a) (filled b) (higher_filled levels a b w h),
      not_higher (filled b) (filled a) f (λ p. n (higher_unfilled b a (sym e) p)),
    )
