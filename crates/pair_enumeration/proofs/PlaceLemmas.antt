-- Two alternatives, their written pair and its class.
use Rattle.std.proofs.Common.{◌≡◌, ◌≢◌, ◌⊎◌, inl, inr, ℕ, zero, suc, ◌+◌, ◌≤◌, ◌<◌, List, [], ◌∷◌, length, get_or, cond, eqb, true, false, Bool, refl, ap, ap₂, sym, ◌∙◌, subst, arith, eq-eqb, ne_eqb, ext_get_or}
use Rattle.std.proofs.lemmas.Bool.{cases_eq, cases_order}
use Rattle.criteria_model.specs.declared.pairs.Pair.{Pair}
use Rattle.criteria_model.specs.Lists.{IsTuple}
use Rattle.criteria_model.specs.Criteria.{Criteria}
use Rattle.criteria_model.specs.Alternatives.{IsAlternative, IsSomewhereHigher, degree}
use Rattle.criteria_model.specs.Pairs.{FitsAt, IsFit, IsCancelled, IsLeftFirst, AreReplicas, AreReplicasAt}
use Rattle.criteria_model.specs.Classes.{IsClass}
use Rattle.criteria_model.proofs.DominanceLemmas.{written, written_turned, higher_filled, higher_unfilled}
use Rattle.pair_enumeration.specs.Places.{cancelled, NeedsQuestion}
use Rattle.pair_enumeration.proofs.TailClasses.{degree-same, degree-differs, first_later}

-- the written pair of two alternatives
abbrev pub written_pair : List ℕ → List ℕ → Pair
written_pair a b = record { left = cancelled a b; right = cancelled b a }

-- ---- the levels of a written pair
pub length-cancelled : (a b : List ℕ) → length a ≡ length b → length (cancelled a b) ≡ length a
length-cancelled [] b e = refl
length-cancelled (x ∷ a) [] e = absurd (omega arith)
length-cancelled (x ∷ a) (y ∷ b) e = omega (arith, length-cancelled a b (omega arith))

pub get_or-cancelled : (a b : List ℕ) (k : ℕ) → length a ≡ length b → k < length a
    → get_or (cancelled a b) k 0 ≡ cond (eqb (get_or a k 0) (get_or b k 0)) 0 (get_or a k 0)
get_or-cancelled [] b k e l = absurd (omega arith)
get_or-cancelled (x ∷ a) [] k e l = absurd (omega arith)
get_or-cancelled (x ∷ a) (y ∷ b) zero e l = refl
get_or-cancelled (x ∷ a) (y ∷ b) (suc k) e l = get_or-cancelled a b k (omega arith) (omega arith)

agrees : (a b : List ℕ) (k : ℕ) → length a ≡ length b → k < length a → get_or a k 0 ≡ get_or b k 0 → get_or (cancelled a b) k 0 ≡ 0
agrees a b k e l h = get_or-cancelled a b k e l ∙ ap (λ t. cond t 0 (get_or a k 0)) (eq-eqb (get_or a k 0) (get_or b k 0) h)

differs : (a b : List ℕ) (k : ℕ) → length a ≡ length b → k < length a → get_or a k 0 ≢ get_or b k 0 → get_or (cancelled a b) k 0 ≡ get_or a k 0
differs a b k e l n = get_or-cancelled a b k e l ∙ ap (λ t. cond t 0 (get_or a k 0)) (ne_eqb (get_or a k 0) (get_or b k 0) n)

at_most : (x n : ℕ) (t : Bool) → x ≤ n → cond t 0 x ≤ n
at_most x n true l = omega arith
at_most x n false l = l

cancelled_at_most : (a b : List ℕ) (k : ℕ) → length a ≡ length b → IsTuple a → k < length a → get_or (cancelled a b) k 0 ≤ 25
cancelled_at_most a b k e h l = omega (arith, get_or-cancelled a b k e l, at_most (get_or a k 0) 25 (eqb (get_or a k 0) (get_or b k 0)) (h.within k 0 l))

default_25 : (xs : List ℕ) (k d : ℕ) → k < length xs → get_or xs k 0 ≤ 25 → get_or xs k d ≤ 25
default_25 [] k d l h = absurd (omega arith)
default_25 (x ∷ xs) zero d l h = h
default_25 (x ∷ xs) (suc k) d l h = default_25 xs k d (omega arith) h

pub cancelled-fits : (a b : List ℕ) → length a ≡ length b → IsTuple a → IsTuple (cancelled a b)
cancelled-fits a b e h = record {
  some = omega (arith, length-cancelled a b e, h.some);
  most = omega (arith, length-cancelled a b e, h.most);
  within = λ k d l. default_25 (cancelled a b) k d l (cancelled_at_most a b k e h (omega (arith, length-cancelled a b e)));
}

-- ---- two alternatives of one model
pub record AreAlternatives (levels a b : List ℕ) : Type 0 where
  pub first : IsAlternative levels a
  pub second : IsAlternative levels b

same_len : (levels a b : List ℕ) → AreAlternatives levels a b → length a ≡ length b
same_len levels a b h = h.first.len ∙ sym h.second.len

pub exchanged : (levels a b : List ℕ) → AreAlternatives levels a b → AreAlternatives levels b a
exchanged levels a b h = record { first = h.second; second = h.first }

fits_at : (levels a b : List ℕ) (k : ℕ) → AreAlternatives levels a b → k < length levels
    → FitsAt (get_or levels k 0) (get_or (cancelled a b) k 0) (get_or (cancelled b a) k 0)
fits_at levels a b k h l =
    let e = same_len levels a b h in
    let la : k < length a = omega (arith, h.first.len) in
    let lb : k < length b = omega (arith, h.second.len) in
    elim (cases_eq (get_or a k 0) (get_or b k 0)) [
      | inl s ↦ inl (agrees a b k e la s, agrees b a k (sym e) lb (sym s))
      | inr n ↦
          let p = differs a b k e la n in
          let q = differs b a k (sym e) lb (λ s. n (sym s)) in
          inr (omega (arith, p, h.first.low k l), omega (arith, p, h.first.high k l), omega (arith, q, h.second.low k l), omega (arith, q, h.second.high k l))
    ]

pub written_fits : (levels a b : List ℕ) → AreAlternatives levels a b → IsFit levels (written_pair a b)
written_fits levels a b h = record {
  left_len = length-cancelled a b (same_len levels a b h) ∙ h.first.len;
  right_len = length-cancelled b a (sym (same_len levels a b h)) ∙ h.second.len;
  places = λ k l. fits_at levels a b k h l;
}

written_cancelled : (a b : List ℕ) → length a ≡ length b → IsCancelled (cancelled a b) (cancelled b a)
written_cancelled a b e k l s =
    let la : k < length a = omega (arith, length-cancelled a b e) in
    elim (cases_eq (get_or a k 0) (get_or b k 0)) [
      | inl t ↦ agrees a b k e la t
      | inr n ↦ absurd (n (sym (differs a b k e la n) ∙ s ∙ differs b a k (sym e) (omega arith) (λ t. n (sym t))))
    ]

higher_written : (a b : List ℕ) → length a ≡ length b → IsSomewhereHigher a b → IsSomewhereHigher (cancelled a b) (cancelled b a)
higher_written a b e (k, l, h) =
    let n : get_or a k 0 ≢ get_or b k 0 = omega arith in
    (k, omega (arith, length-cancelled a b e), omega (arith, h, differs a b k e l n, differs b a k (sym e) (omega arith) (λ t. n (sym t))))

written_higher : (a b : List ℕ) → length a ≡ length b → IsSomewhereHigher (cancelled a b) (cancelled b a) → IsSomewhereHigher a b
written_higher a b e (k, l, h) =
    let la : k < length a = omega (arith, length-cancelled a b e) in
    elim (cases_eq (get_or a k 0) (get_or b k 0)) [
      | inl t ↦ absurd (omega (arith, h, agrees a b k e la t, agrees b a k (sym e) (omega arith) (sym t)))
      | inr n ↦ (k, la, omega (arith, h, differs a b k e la n, differs b a k (sym e) (omega arith) (λ t. n (sym t))))
    ]

-- ---- degrees
degree-cancelled : (a b : List ℕ) → length a ≡ length b → degree (cancelled a b) (cancelled b a) ≡ degree a b
degree-cancelled [] [] e = refl
degree-cancelled [] (y ∷ b) e = absurd (omega arith)
degree-cancelled (x ∷ a) [] e = absurd (omega arith)
degree-cancelled (x ∷ a) (y ∷ b) e = elim (cases_eq x y) [
  | inl s ↦
      let p : cond (eqb x y) 0 x ≡ 0 = ap (λ t. cond t 0 x) (eq-eqb x y s) in
      let q : cond (eqb y x) 0 y ≡ 0 = ap (λ t. cond t 0 y) (eq-eqb y x (sym s)) in
      degree-same (cond (eqb x y) 0 x) (cond (eqb y x) 0 y) (cancelled a b) (cancelled b a) (p ∙ sym q)
      ∙ degree-cancelled a b (omega arith) ∙ sym (degree-same x y a b s)
  | inr n ↦
      let p : cond (eqb x y) 0 x ≡ x = ap (λ t. cond t 0 x) (ne_eqb x y n) in
      let q : cond (eqb y x) 0 y ≡ y = ap (λ t. cond t 0 y) (ne_eqb y x (λ s. n (sym s))) in
      degree-differs (cond (eqb x y) 0 x) (cond (eqb y x) 0 y) (cancelled a b) (cancelled b a) (λ s. n (sym p ∙ s ∙ q))
      ∙ ap (λ d. 1 + d) (degree-cancelled a b (omega arith)) ∙ sym (degree-differs x y a b n)
]

pub degree-turned : (a b : List ℕ) → length a ≡ length b → degree b a ≡ degree a b
degree-turned [] [] e = refl
degree-turned [] (y ∷ b) e = absurd (omega arith)
degree-turned (x ∷ a) [] e = absurd (omega arith)
degree-turned (x ∷ a) (y ∷ b) e = elim (cases_eq x y) [
  | inl s ↦ degree-same y x b a (sym s) ∙ degree-turned a b (omega arith) ∙ sym (degree-same x y a b s)
  | inr n ↦ degree-differs y x b a (λ s. n (sym s)) ∙ ap (λ d. 1 + d) (degree-turned a b (omega arith)) ∙ sym (degree-differs x y a b n)
]

-- ---- which side is higher first

first_of_two : (a b : List ℕ) → length a ≡ length b → (a ≡ b) ⊎ (IsLeftFirst a b ⊎ IsLeftFirst b a)
first_of_two [] [] e = inl refl
first_of_two [] (y ∷ b) e = absurd (omega arith)
first_of_two (x ∷ a) [] e = absurd (omega arith)
first_of_two (x ∷ a) (y ∷ b) e = elim (cases_order x y) [
  | inl same ↦ elim (first_of_two a b (omega arith)) [
    | inl s ↦ inl (ap₂ (λ z zs. z ∷ zs) same s)
    | inr f ↦ elim f [ inl p ↦ inr (inl (first_later x y a b same p)) | inr q ↦ inr (inr (first_later y x b a (sym same) q)) ]
  ]
  | inr apart ↦ elim apart [
    | inl less ↦ inr (inr (0, omega arith, (λ j m. absurd (omega (arith, m)), less)))
    | inr above ↦ inr (inl (0, omega arith, (λ j m. absurd (omega (arith, m)), above)))
  ]
]

first_written : (a b : List ℕ) → length a ≡ length b → IsLeftFirst a b → IsLeftFirst (cancelled a b) (cancelled b a)
first_written a b e (k, l, h) =
    let n : get_or a k 0 ≢ get_or b k 0 = omega (arith, h.1) in (
      k,
      omega (arith, length-cancelled a b e),
      (
        λ j m. agrees a b j e (omega arith) (h.0 j m) ∙ sym (agrees b a j (sym e) (omega arith) (sym (h.0 j m))),
        omega (arith, h.1, differs a b k e l n, differs b a k (sym e) (omega arith) (λ t. n (sym t))),
      ),
    )

first_not_both : (a b : List ℕ) → IsLeftFirst a b → IsLeftFirst b a → ⊥
first_not_both a b (k, l, h) (j, m, g) = elim (cases_order k j) [
  | inl same ↦ omega (arith, h.1, subst (λ i. get_or a i 0 < get_or b i 0) (sym same) g.1)
  | inr apart ↦ elim apart [
    | inl less ↦ omega (arith, h.1, g.0 k less)
    | inr above ↦ omega (arith, g.1, h.0 j above)
  ]
]

-- ---- the class of two alternatives
written_class : (criteria : Criteria) (a b : List ℕ) → AreAlternatives criteria.levels a b → NeedsQuestion criteria a b → IsLeftFirst a b
    → IsClass criteria (written_pair a b)
written_class criteria a b h q first =
    let e = same_len criteria.levels a b h in
    let fits = written_fits criteria.levels a b h in
    record {
      fits = fits;
      cancelled = written_cancelled a b e;
      left_first = first_written a b e first;
      undominated = (
        higher_filled criteria.levels (cancelled a b) (cancelled b a) (written criteria.levels (written_pair a b) fits) (higher_written a b e q.undominated.0),
        higher_filled criteria.levels (cancelled b a) (cancelled a b) (written_turned criteria.levels (written_pair a b) fits) (higher_written b a (sym e) q.undominated.1),
      );
      within = omega (arith, degree-cancelled a b e, q.within);
    }

pub question_turned : (criteria : Criteria) (a b : List ℕ) → AreAlternatives criteria.levels a b → NeedsQuestion criteria a b
    → NeedsQuestion criteria b a
question_turned criteria a b h q = record { undominated = (q.undominated.1, q.undominated.0); within = omega (arith, q.within, degree-turned a b (same_len criteria.levels a b h)) }

higher_not_same : (a b : List ℕ) → IsSomewhereHigher a b → a ≢ b
higher_not_same a b (k, l, h) e = omega (arith, h, ap (λ xs. get_or xs k 0) e)

-- one of the two ways to write them is a class
pub class_of_two : (criteria : Criteria) (a b : List ℕ) → AreAlternatives criteria.levels a b → NeedsQuestion criteria a b
    → IsClass criteria (written_pair a b) ⊎ IsClass criteria (written_pair b a)
class_of_two criteria a b h q = elim (first_of_two a b (same_len criteria.levels a b h)) [
  | inl same ↦ absurd (higher_not_same a b q.undominated.0 same)
  | inr f ↦ elim f [
    | inl first ↦ inl (written_class criteria a b h q first)
    | inr first ↦ inr (written_class criteria b a (exchanged criteria.levels a b h) (question_turned criteria a b h q) first)
  ]
]

-- and not both
pub not_both_classes : (criteria : Criteria) (a b : List ℕ) → IsClass criteria (written_pair a b) → IsClass criteria (written_pair b a) → ⊥
not_both_classes criteria a b c d = first_not_both (cancelled a b) (cancelled b a) c.left_first d.left_first

-- where it is one, they need a question
pub class_needs_question : (criteria : Criteria) (a b : List ℕ) → AreAlternatives criteria.levels a b → IsClass criteria (written_pair a b)
    → NeedsQuestion criteria a b
class_needs_question criteria a b h c =
    let e = same_len criteria.levels a b h in
    let f : length (cancelled a b) ≡ length (cancelled b a) = c.fits.left_len ∙ sym c.fits.right_len in
    record {
      undominated = (
        written_higher a b e (higher_unfilled (cancelled a b) (cancelled b a) f c.undominated.0),
        written_higher b a (sym e) (higher_unfilled (cancelled b a) (cancelled a b) (sym f) c.undominated.1),
      );
      within = omega (arith, degree-cancelled a b e, c.within);
    }

-- ---- replicas
replica_at : (a b : List ℕ) (k : ℕ) → length a ≡ length b → k < length a → AreReplicasAt (written_pair a b) (record { left = a; right = b }) k
replica_at a b k e l = elim (cases_eq (get_or a k 0) (get_or b k 0)) [
  | inl s ↦ inl (agrees a b k e l s ∙ sym (agrees b a k (sym e) (omega arith) (sym s)), s)
  | inr n ↦ inr (differs a b k e l n, differs b a k (sym e) (omega arith) (λ t. n (sym t)))
]

pub written_replica : (levels a b : List ℕ) → AreAlternatives levels a b → AreReplicas levels (written_pair a b) (record { left = a; right = b })
written_replica levels a b h =
    let fits = written_fits levels a b h in
    record {
      left_len = fits.left_len;
      right_len = fits.right_len;
      other_left_len = h.first.len;
      other_right_len = h.second.len;
      places = λ k l. replica_at a b k (same_len levels a b h) (omega (arith, h.first.len));
    }

-- a class of which they are a replica is their written pair
left_at : (levels a b : List ℕ) (pair : Pair) (k : ℕ) → AreAlternatives levels a b → IsFit levels pair → IsCancelled pair.left pair.right
    → AreReplicasAt pair (record { left = a; right = b }) k → k < length levels → (get_or pair.left k 0 ≡ get_or (cancelled a b) k 0) × (get_or pair.right k 0 ≡ get_or (cancelled b a) k 0)
left_at levels a b pair k h fits zeros (inl both) l =
    let e = same_len levels a b h in
    let z = zeros k (omega (arith, fits.left_len)) both.0 in
    (z ∙ sym (agrees a b k e (omega (arith, h.first.len)) both.1), sym both.0 ∙ z ∙ sym (agrees b a k (sym e) (omega (arith, h.second.len)) (sym both.1)))
left_at levels a b pair k h fits zeros (inr same) l =
    let e = same_len levels a b h in
    elim (cases_eq (get_or a k 0) (get_or b k 0)) [
      | inl s ↦
          let z = zeros k (omega (arith, fits.left_len)) (same.0 ∙ s ∙ sym same.1) in
          absurd (omega (arith, z, same.0, h.first.low k l))
      | inr n ↦ (same.0 ∙ sym (differs a b k e (omega (arith, h.first.len)) n), same.1 ∙ sym (differs b a k (sym e) (omega (arith, h.second.len)) (λ t. n (sym t))))
    ]

pub replica_is_written : (criteria : Criteria) (a b : List ℕ) (pair : Pair) → AreAlternatives criteria.levels a b → IsClass criteria pair
    → AreReplicas criteria.levels pair (record { left = a; right = b }) → pair ≡ written_pair a b
replica_is_written criteria a b pair h c r =
    let w = written_fits criteria.levels a b h in
    ap₂ (λ (x : List ℕ) (y : List ℕ). let p : Pair = record { left = x; right = y } in p)
    (ext_get_or 0 pair.left (cancelled a b) (c.fits.left_len ∙ sym w.left_len)
    (λ k l. (left_at criteria.levels a b pair k h c.fits c.cancelled (r.places k (omega (arith, c.fits.left_len))) (omega (arith, c.fits.left_len))).0))
    (ext_get_or 0 pair.right (cancelled b a) (c.fits.right_len ∙ sym w.right_len)
    (λ k l. (left_at criteria.levels a b pair k h c.fits c.cancelled (r.places k (omega (arith, c.fits.right_len))) (omega (arith, c.fits.right_len))).1))
