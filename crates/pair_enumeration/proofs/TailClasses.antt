-- The tails over all criteria are the classes.
use Rattle.std.proofs.Common.{◌≡◌, ◌≢◌, ◌⊎◌, inl, inr, ℕ, zero, suc, ◌+◌, ◌-◌, ◌≤◌, ◌<◌, List, [], ◌∷◌, length, map, zip, get_or, cond, not, ◌==◌, eqb, true, false, Bool, ltb, Some, None, refl, ap, ap₂, sym, ◌∙◌, subst, arith, eq-eqb, ne_eqb, eqb-true, lt-ltb, le-ltb, ltb-true}
use Rattle.std.proofs.lemmas.List.Sums.{sum_by-cons}
use Rattle.criteria_model.specs.declared.pairs.Pair.{Pair}
use Rattle.criteria_model.specs.Criteria.{Criteria}
use Rattle.criteria_model.specs.Alternatives.{IsSomewhereHigher, degree}
use Rattle.criteria_model.specs.Pairs.{FitsAt, IsFit, IsCancelled, IsLeftFirst}
use Rattle.criteria_model.specs.Classes.{IsClass}
use Rattle.criteria_model.proofs.DominanceLemmas.{written, written_turned, higher_filled, higher_unfilled}
use Rattle.pair_enumeration.specs.declared.walks.Stage.{Stage}
use Rattle.pair_enumeration.specs.declared.walks.Stage.TheVariants.{Same, Left, Both}
use Rattle.pair_enumeration.specs.Walks.{stage_after, Tail, joined}
use Rattle.pair_enumeration.proofs.TailMembers.{Differs, IsTail}

-- what is still to come of the two sides, from this stage on
abbrev pub Completes : Stage → List ℕ → List ℕ → Type 0
Completes Same left right = IsLeftFirst left right × IsSomewhereHigher right left
Completes Left left right = IsSomewhereHigher right left
Completes Both left right = Unit {0}

-- two lists of levels that fit the criteria, cancelled where they agree
pub record AreLevels (levels left right : List ℕ) : Type 0 where
  pub left_len : length left ≡ length levels
  pub right_len : length right ≡ length levels
  pub places : (k : ℕ) → k < length levels → FitsAt (get_or levels k 0) (get_or left k 0) (get_or right k 0)
  pub cancelled : IsCancelled left right

levels_tail : (n x y : ℕ) (levels left right : List ℕ) → AreLevels (n ∷ levels) (x ∷ left) (y ∷ right) → AreLevels levels left right
levels_tail n x y levels left right w = record {
  left_len = omega (arith, w.left_len);
  right_len = omega (arith, w.right_len);
  places = λ k l. w.places (suc k) (omega arith);
  cancelled = λ k l e. w.cancelled (suc k) (omega arith) e;
}

levels_cons : (n x y : ℕ) (levels left right : List ℕ) → FitsAt n x y → (x ≡ y → x ≡ 0) → AreLevels levels left right
    → AreLevels (n ∷ levels) (x ∷ left) (y ∷ right)
levels_cons n x y levels left right f z w = record {
  left_len = omega (arith, w.left_len);
  right_len = omega (arith, w.right_len);
  places = places_cons n x y levels left right f w.places;
  cancelled = cancelled_cons x y left right z w.cancelled;
}
  where
    places_cons : (n x y : ℕ) (levels left right : List ℕ) → FitsAt n x y
        → ((k : ℕ) → k < length levels → FitsAt (get_or levels k 0) (get_or left k 0) (get_or right k 0))
        → (k : ℕ) → k < length (n ∷ levels) → FitsAt (get_or (n ∷ levels) k 0) (get_or (x ∷ left) k 0) (get_or (y ∷ right) k 0)
    places_cons n x y levels left right f h zero l = f
    places_cons n x y levels left right f h (suc k) l = h k (omega arith)

    cancelled_cons : (x y : ℕ) (left right : List ℕ) → (x ≡ y → x ≡ 0) → IsCancelled left right → IsCancelled (x ∷ left) (y ∷ right)
    cancelled_cons x y left right z h zero l e = z e
    cancelled_cons x y left right z h (suc k) l e = h k (omega arith) e

-- ---- the degree, criterion by criterion
degree-cons : (x y : ℕ) (left right : List ℕ) → degree (x ∷ left) (y ∷ right) ≡ cond (not (x == y)) 1 0 + degree left right
degree-cons x y left right = sum_by-cons (λ (p : ℕ × ℕ). cond (not (p.0 == p.1)) 1 0) (x, y) (zip left right)

pub degree-same : (x y : ℕ) (left right : List ℕ) → x ≡ y → degree (x ∷ left) (y ∷ right) ≡ degree left right
degree-same x y left right e = degree-cons x y left right ∙ ap (λ b. cond (not b) 1 0 + degree left right) (eq-eqb x y e) ∙ omega arith

pub degree-differs : (x y : ℕ) (left right : List ℕ) → x ≢ y → degree (x ∷ left) (y ∷ right) ≡ 1 + degree left right
degree-differs x y left right n = degree-cons x y left right ∙ ap (λ b. cond (not b) 1 0 + degree left right) (ne_eqb x y n)

-- ---- higher somewhere, and left first, criterion by criterion
pub higher_later : (x y : ℕ) (a b : List ℕ) → IsSomewhereHigher a b → IsSomewhereHigher (x ∷ a) (y ∷ b)
higher_later x y a b (k, l, h) = (suc k, omega arith, h)

higher_at : (x y : ℕ) (a b : List ℕ) (k : ℕ) → x ≤ y → k < length (x ∷ a) → get_or (y ∷ b) k 0 < get_or (x ∷ a) k 0 → IsSomewhereHigher a b
higher_at x y a b zero e l h = absurd (omega arith)
higher_at x y a b (suc k) e l h = (k, omega arith, h)

pub higher_tail : (x y : ℕ) (a b : List ℕ) → x ≤ y → IsSomewhereHigher (x ∷ a) (y ∷ b) → IsSomewhereHigher a b
higher_tail x y a b e (k, l, h) = higher_at x y a b k e l h

same_later : (x y : ℕ) (a b : List ℕ) (k : ℕ) → x ≡ y → ((j : ℕ) → j < k → get_or a j 0 ≡ get_or b j 0) → (j : ℕ) → j < suc k
    → get_or (x ∷ a) j 0 ≡ get_or (y ∷ b) j 0
same_later x y a b k e h zero l = e
same_later x y a b k e h (suc j) l = h j (omega arith)

pub first_later : (x y : ℕ) (a b : List ℕ) → x ≡ y → IsLeftFirst a b → IsLeftFirst (x ∷ a) (y ∷ b)
first_later x y a b e (k, l, h) = (suc k, omega arith, (same_later x y a b k e h.0, h.1))

first_at : (x y : ℕ) (a b : List ℕ) (k : ℕ) → x ≡ y → k < length (x ∷ a) → ((j : ℕ) → j < k → get_or (x ∷ a) j 0 ≡ get_or (y ∷ b) j 0)
    → get_or (y ∷ b) k 0 < get_or (x ∷ a) k 0 → IsLeftFirst a b
first_at x y a b zero e l same h = absurd (omega arith)
first_at x y a b (suc k) e l same h = (k, omega arith, (λ j m. same (suc j) (omega arith), h))

first_tail : (x y : ℕ) (a b : List ℕ) → x ≡ y → IsLeftFirst (x ∷ a) (y ∷ b) → IsLeftFirst a b
first_tail x y a b e (k, l, h) = first_at x y a b k e l h.0 h.1

head_at : (x y : ℕ) (a b : List ℕ) (k : ℕ) → x ≢ y → ((j : ℕ) → j < k → get_or (x ∷ a) j 0 ≡ get_or (y ∷ b) j 0)
    → get_or (y ∷ b) k 0 < get_or (x ∷ a) k 0 → y < x
head_at x y a b zero n same h = h
head_at x y a b (suc k) n same h = absurd (n (same 0 (omega arith)))

first_head : (x y : ℕ) (a b : List ℕ) → x ≢ y → IsLeftFirst (x ∷ a) (y ∷ b) → y < x
first_head x y a b n (k, l, h) = head_at x y a b k n h.0 h.1

-- ---- from a stage to the next
completes_tail : (stage : Stage) (x y : ℕ) (a b : List ℕ) → x ≡ y → Completes stage (x ∷ a) (y ∷ b) → Completes stage a b
completes_tail Same x y a b e h = (first_tail x y a b e h.0, higher_tail y x b a (omega arith) h.1)
completes_tail Left x y a b e h = higher_tail y x b a (omega arith) h
completes_tail Both x y a b e h = tt

completes_later : (stage : Stage) (x y : ℕ) (a b : List ℕ) → x ≡ y → Completes stage a b → Completes stage (x ∷ a) (y ∷ b)
completes_later Same x y a b e h = (first_later x y a b e h.0, higher_later y x b a h.1)
completes_later Left x y a b e h = higher_later y x b a h
completes_later Both x y a b e h = tt

after_same : (x y : ℕ) → y < x → stage_after Same x y ≡ Some Left
after_same x y h = ap (λ b. cond b (Some Left) None) (lt-ltb y x h)

after_left_left : (x y : ℕ) → y < x → stage_after Left x y ≡ Some Left
after_left_left x y h = ap (λ b. cond b (Some Left) (cond (ltb x y) (Some Both) None)) (lt-ltb y x h)

after_left_both : (x y : ℕ) → x < y → stage_after Left x y ≡ Some Both
after_left_both x y h =
    ap (λ b. cond b (Some Left) (cond (ltb x y) (Some Both) None)) (le-ltb y x (omega arith)) ∙ ap (λ b. cond b (Some Both) None) (lt-ltb x y h)

after_both : (x y : ℕ) → x ≢ y → stage_after Both x y ≡ Some Both
after_both x y n = ap (λ b. cond b None (Some Both)) (ne_eqb x y n)

lt_or_le : (x y : ℕ) → (x < y) ⊎ (y ≤ x)
lt_or_le x zero = inr (omega arith)
lt_or_le zero (suc y) = inl (omega arith)
lt_or_le (suc x) (suc y) = elim (lt_or_le x y) [ inl h ↦ inl (omega (arith, h)) | inr h ↦ inr (omega (arith, h)) ]

completes_next : (stage : Stage) (x y : ℕ) (a b : List ℕ) → x ≢ y → Completes stage (x ∷ a) (y ∷ b)
    → (next : Stage) × (stage_after stage x y ≡ Some next) × Completes next a b
completes_next Same x y a b n h =
    let l = first_head x y a b n h.0 in
    (Left, after_same x y l, higher_tail y x b a (omega arith) h.1)
completes_next Left x y a b n h = elim (lt_or_le y x) [
  | inl l ↦ (Left, after_left_left x y l, higher_tail y x b a (omega arith) h)
  | inr l ↦ (Both, after_left_both x y (omega arith), tt)
]
completes_next Both x y a b n h = (Both, after_both x y n, tt)

-- what a stage after a criterion says of its levels
back_same : (x y : ℕ) (next : Stage) (t : Bool) → ltb y x ≡ t → cond t (Some Left) None ≡ Some next → (y < x) × (next ≡ Left)
back_same x y next true e h = (ltb-true y x e, cc)
back_same x y next false e h = absurd cc

back_left : (x y : ℕ) (next : Stage) (t u : Bool) → ltb y x ≡ t → ltb x y ≡ u → cond t (Some Left) (cond u (Some Both) None) ≡ Some next
    → ((y < x) × (next ≡ Left)) ⊎ ((x < y) × (next ≡ Both))
back_left x y next true u e f h = inl (ltb-true y x e, cc)
back_left x y next false true e f h = inr (ltb-true x y f, cc)
back_left x y next false false e f h = absurd cc

back_both : (x y : ℕ) (next : Stage) (t : Bool) → eqb x y ≡ t → cond t None (Some Both) ≡ Some next → (t ≡ false) × (next ≡ Both)
back_both x y next true e h = absurd cc
back_both x y next false e h = (refl, cc)

not_eqb : (x y : ℕ) → eqb x y ≡ false → x ≢ y
not_eqb x y e h = let f = eq-eqb x y h in absurd cc

pub after_differs : (stage next : Stage) (x y : ℕ) → stage_after stage x y ≡ Some next → x ≢ y
after_differs Same next x y h e = let r = back_same x y next (ltb y x) refl h in omega (arith, r.0)
after_differs Left next x y h e = elim (back_left x y next (ltb y x) (ltb x y) refl refl h) [ inl r ↦ omega (arith, r.0) | inr r ↦ omega (arith, r.0) ]
after_differs Both next x y h e = not_eqb x y (back_both x y next (eqb x y) refl h).0 e

completes_back : (stage next : Stage) (x y : ℕ) (a b : List ℕ) → stage_after stage x y ≡ Some next → Completes next a b
    → Completes stage (x ∷ a) (y ∷ b)
completes_back Same next x y a b h k =
    let r = back_same x y next (ltb y x) refl h in
    let later : IsSomewhereHigher b a = subst (λ s. Completes s a b) r.1 k in
    ((0, omega arith, (λ j m. absurd (omega (arith, m)), r.0)), higher_later y x b a later)
completes_back Left next x y a b h k = elim (back_left x y next (ltb y x) (ltb x y) refl refl h) [
  | inl r ↦ (let later : IsSomewhereHigher b a = subst (λ s. Completes s a b) r.1 k in higher_later y x b a later)
  | inr r ↦ (0, omega arith, r.0)
]
completes_back Both next x y a b h k = tt

-- ---- each class is a tail
eq_or_ne : (x y : ℕ) (t : Bool) → eqb x y ≡ t → (x ≡ y) ⊎ (x ≢ y)
eq_or_ne x y true e = inl (eqb-true x y e)
eq_or_ne x y false e = inr (not_eqb x y e)

nothing_higher : (a : List ℕ) → ¬ IsSomewhereHigher [] a
nothing_higher a (k, l, h) = omega (arith, l)

differs_at : (n d : ℕ) (stage next : Stage) (x y : ℕ) → 1 ≤ d → x ≢ y → FitsAt n x y → stage_after stage x y ≡ Some next
    → Differs n d stage next (x, y)
differs_at n d stage next x y l m (inl none) h = absurd (m (none.0 ∙ sym none.1))
differs_at n d stage next x y l m (inr both) h = record { rest = l; left_low = both.0; left_high = both.1; right_low = both.2; right_high = both.3; after = h }

pub to_tail : (levels left right : List ℕ) (stage : Stage) → AreLevels levels left right → Completes stage left right
    → IsTail levels (degree left right) stage (zip left right)
to_tail [] [] [] Same w h = absurd (nothing_higher [] h.1)
to_tail [] [] [] Left w h = absurd (nothing_higher [] h)
to_tail [] [] [] Both w h = (refl, refl)
to_tail [] [] (y ∷ right) stage w h = absurd (omega (arith, w.right_len))
to_tail [] (x ∷ left) right stage w h = absurd (omega (arith, w.left_len))
to_tail (n ∷ levels) [] right stage w h = absurd (omega (arith, w.left_len))
to_tail (n ∷ levels) (x ∷ left) [] stage w h = absurd (omega (arith, w.right_len))
to_tail (n ∷ levels) (x ∷ left) (y ∷ right) stage w h =
    elim (eq_or_ne x y (eqb x y) refl) [
      | inl e ↦
          let z : x ≡ 0 = w.cancelled 0 (omega arith) e in
          inl (
            ap₂ (λ (a : ℕ) (b : ℕ). (a, b)) z (sym e ∙ z),
            subst (λ d. IsTail levels d stage (zip left right)) (sym (degree-same x y left right e))
                (to_tail levels left right stage (levels_tail n x y levels left right w) (completes_tail stage x y left right e h)),
          )
      | inr m ↦
          let s = completes_next stage x y left right m h in
          let d = degree-differs x y left right m in
          let e : degree (x ∷ left) (y ∷ right) - 1 ≡ degree left right = omega (arith, d) in
          inr (
            s.0,
            differs_at n (degree (x ∷ left) (y ∷ right)) stage s.0 x y (omega (arith, d)) m (w.places 0 (omega arith)) s.1,
            subst (λ d. IsTail levels d s.0 (zip left right)) (sym e)
                (to_tail levels left right s.0 (levels_tail n x y levels left right w) s.2),
          )
    ]

-- ---- each tail is a class
abbrev pub lefts : Tail → List ℕ
lefts t = map (λ p. p.0) t

abbrev pub rights : Tail → List ℕ
rights t = map (λ p. p.1) t

pub record IsTold (levels : List ℕ) (d : ℕ) (stage : Stage) (t : Tail) : Type 0 where
  pub levels_of : AreLevels levels (lefts t) (rights t)
  pub degree_of : d ≡ degree (lefts t) (rights t)
  pub completes : Completes stage (lefts t) (rights t)

pub from_tail : (levels : List ℕ) (d : ℕ) (stage : Stage) (t : Tail) → IsTail levels d stage t → IsTold levels d stage t
from_tail [] d stage [] h = record {
  levels_of = record { left_len = refl; right_len = refl; places = λ k l. absurd (omega (arith, l)); cancelled = λ k l e. absurd (omega (arith, l)) };
  degree_of = h.0;
  completes = subst (λ s. Completes s [] []) (sym h.1) tt;
}
from_tail [] d stage (p ∷ t) h = absurd h
from_tail (n ∷ levels) d stage [] h = absurd h
from_tail (n ∷ levels) d stage (p ∷ t) (inl h) =
    let r = from_tail levels d stage t h.1 in
    let x : p.0 ≡ 0 = ap (λ (q : ℕ × ℕ). q.0) h.0 in
    let y : p.1 ≡ 0 = ap (λ (q : ℕ × ℕ). q.1) h.0 in
    record {
      levels_of = levels_cons n p.0 p.1 levels (lefts t) (rights t) (inl (x, y)) (λ e. x) r.levels_of;
      degree_of = r.degree_of ∙ sym (degree-same p.0 p.1 (lefts t) (rights t) (x ∙ sym y));
      completes = completes_later stage p.0 p.1 (lefts t) (rights t) (x ∙ sym y) r.completes;
    }
from_tail (n ∷ levels) d stage (p ∷ t) (inr h) =
    let r = from_tail levels (d - 1) h.0 t h.2 in
    let m : p.0 ≢ p.1 = after_differs stage h.0 p.0 p.1 h.1.after in
    record {
      levels_of = levels_cons n p.0 p.1 levels (lefts t) (rights t) (inr (h.1.left_low, h.1.left_high, h.1.right_low, h.1.right_high)) (λ e. absurd (m e)) r.levels_of;
      degree_of = omega (arith, h.1.rest, r.degree_of, degree-differs p.0 p.1 (lefts t) (rights t) m);
      completes = completes_back stage h.0 p.0 p.1 (lefts t) (rights t) h.1.after r.completes;
    }

-- ---- the least degree
abbrev needs : Stage → ℕ
needs Same = 2
needs Left = 1
needs Both = 0

after_needs : (stage next : Stage) (x y : ℕ) → stage_after stage x y ≡ Some next → needs stage ≤ needs next + 1
after_needs Same next x y h = let r = back_same x y next (ltb y x) refl h in omega (arith, ap needs r.1)
after_needs Left next x y h = elim (back_left x y next (ltb y x) (ltb x y) refl refl h) [ inl r ↦ omega (arith, ap needs r.1) | inr r ↦ omega (arith, ap needs r.1) ]
after_needs Both next x y h = omega arith

needs_rest : (levels : List ℕ) (d : ℕ) (stage : Stage) (t : Tail) → IsTail levels d stage t → needs stage ≤ d
needs_rest [] d stage [] h = omega (arith, ap needs h.1)
needs_rest [] d stage (p ∷ t) h = absurd h
needs_rest (n ∷ levels) d stage [] h = absurd h
needs_rest (n ∷ levels) d stage (p ∷ t) (inl h) = needs_rest levels d stage t h.1
needs_rest (n ∷ levels) d stage (p ∷ t) (inr h) = omega (arith, h.1.rest, needs_rest levels (d - 1) h.0 t h.2, after_needs stage h.0 p.0 p.1 h.1.after)

pub degree_from_two : (levels : List ℕ) (d : ℕ) (t : Tail) → IsTail levels d Same t → 2 ≤ d
degree_from_two levels d t h = needs_rest levels d Same t h

-- ---- both ways
pub class_tail : (criteria : Criteria) (pair : Pair) → IsClass criteria pair
    → IsTail criteria.levels (degree pair.left pair.right) Same (zip pair.left pair.right)
class_tail criteria pair c =
    to_tail criteria.levels pair.left pair.right Same
    (record { left_len = c.fits.left_len; right_len = c.fits.right_len; places = c.fits.places; cancelled = c.cancelled })
    (c.left_first, higher_unfilled pair.right pair.left (c.fits.right_len ∙ sym c.fits.left_len) c.undominated.1)

first_higher : (a b : List ℕ) → IsLeftFirst a b → IsSomewhereHigher a b
first_higher a b (k, l, h) = (k, l, h.1)

pub tail_class : (criteria : Criteria) (d : ℕ) (t : Tail) → IsTail criteria.levels d Same t → d ≤ criteria.degree → IsClass criteria (joined [] [] t)
tail_class criteria d t h l =
    let r = from_tail criteria.levels d Same t h in
    let fits : IsFit criteria.levels (joined [] [] t) = record { left_len = r.levels_of.left_len; right_len = r.levels_of.right_len; places = r.levels_of.places } in
    record {
      fits = fits;
      cancelled = r.levels_of.cancelled;
      left_first = r.completes.0;
      undominated = (
        higher_filled criteria.levels (lefts t) (rights t) (written criteria.levels (joined [] [] t) fits) (first_higher (lefts t) (rights t) r.completes.0),
        higher_filled criteria.levels (rights t) (lefts t) (written_turned criteria.levels (joined [] [] t) fits) r.completes.1,
      );
      within = omega (arith, r.degree_of, l);
    }

-- ---- a pair and its tail
lefts-zip : (a b : List ℕ) → length a ≡ length b → lefts (zip a b) ≡ a
lefts-zip [] b e = refl
lefts-zip (x ∷ a) [] e = absurd (omega arith)
lefts-zip (x ∷ a) (y ∷ b) e = ap (λ r. x ∷ r) (lefts-zip a b (omega arith))

rights-zip : (a b : List ℕ) → length a ≡ length b → rights (zip a b) ≡ b
rights-zip [] [] e = refl
rights-zip [] (y ∷ b) e = absurd (omega arith)
rights-zip (x ∷ a) [] e = absurd (omega arith)
rights-zip (x ∷ a) (y ∷ b) e = ap (λ r. y ∷ r) (rights-zip a b (omega arith))

pub joined-zip : (pair : Pair) → length pair.left ≡ length pair.right → joined [] [] (zip pair.left pair.right) ≡ pair
joined-zip pair e = ap₂ (λ (l : List ℕ) (r : List ℕ). let p : Pair = record { left = l; right = r } in p) (lefts-zip pair.left pair.right e) (rights-zip pair.left pair.right e)

pub zip-lefts : (t : Tail) → zip (lefts t) (rights t) ≡ t
zip-lefts [] = refl
zip-lefts (p ∷ t) = ap (λ r. p ∷ r) (zip-lefts t)
