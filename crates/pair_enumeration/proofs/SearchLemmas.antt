-- The search for a pair in the ordered list of classes.
use Rattle.std.proofs.Common.{◌≡◌, ◌≢◌, ◌⊎◌, ◌↔◌, inl, inr, ℕ, suc, ◌+◌, ◌-◌, ◌≤◌, ◌<◌, List, ◌∷◌, length, drop, zip, get_or, ltb, IsTrue, AllPairs, ap, ap₂, sym, ◌∙◌, subst, subst₂, arith, lt-ltb, ltb-true, nat_cmp, Ordering, Less, Equal, Greater, drop-cons, Contains, slice_get, Some, eq-or-lt_of_le}
use Rattle.std.proofs.lemmas.Bool.{cases_order}
use Rattle.std.specs.Ordering.{ordering_then, ordering_reverse}
use Rattle.std.specs.Cmp.{nat_cmp_is}
use Rattle.std.specs.Cmp.Lexicographic.{slice_cmp, nat_list_cmp_total}
use Rattle.criteria_model.specs.declared.pairs.Pair.{Pair}
use Rattle.criteria_model.specs.Classes.{order_level, order_key, ComesBefore}
use Rattle.std.proofs.lemmas.Option.{slice_get-get_or, slice_get_within, get_or_from_slice_get}
use Rattle.row_laws.proofs.ItemLemmas.{item_of, item_positive, item_found}
use Rattle.pair_enumeration.specs.Places.{class_at}
use Rattle.pair_enumeration.specs.Walks.{codes}
use Rattle.pair_enumeration.proofs.TailOrder.{cmp_less, cmp_same}

-- ---- the order is strict
less_not_both : (o : Ordering) → o ≡ Less → ordering_reverse o ≡ Less → ⊥
less_not_both Less e h = absurd cc
less_not_both Equal e h = absurd cc
less_not_both Greater e h = absurd cc

pub before_not_after : (p q : Pair) → ComesBefore p q → ¬ ComesBefore q p
before_not_after p q h k =
    less_not_both (slice_cmp nat_cmp (order_key p) (order_key q)) h (sym (nat_list_cmp_total.antisymm (order_key q) (order_key p)) ∙ k)

pub not_before_itself : (p : Pair) → ¬ ComesBefore p p
not_before_itself p h = before_not_after p p h h

-- ---- the search: the pair stands at no place below low or above high
pub record IsNotOutside (pairs : List Pair) (pair : Pair) (low high : ℕ) : Type 0 where
  pub low_high : low ≤ high
  pub high_len : high ≤ length pairs
  pub below : (k : ℕ) → k < low → get_or pairs k pair ≢ pair
  pub above : (k : ℕ) → high < k → k < length pairs → get_or pairs k pair ≢ pair

at_most : (k m : ℕ) → k < m + 1 → (k ≡ m) ⊎ (k < m)
at_most k m l = eq-or-lt_of_le (omega arith)

not_before_middle : (pairs : List Pair) (pair middle_pair : Pair) (high middle k : ℕ) → AllPairs ComesBefore pairs → high ≤ length pairs
    → middle < high
    → get_or pairs middle pair ≡ middle_pair → ComesBefore middle_pair pair → k < middle + 1 → get_or pairs k pair ≢ pair
not_before_middle pairs pair middle_pair high middle k ordered len m e before l is = elim (at_most k middle l) [
  | inl same ↦ not_before_itself pair (subst (λ p. ComesBefore p pair) (sym e ∙ ap (λ n. get_or pairs n pair) (sym same) ∙ is) before)
  | inr less ↦ before_not_after middle_pair pair before (subst₂ ComesBefore is e (ordered k middle pair less (omega arith)))
]

pub not_below_middle : (pairs : List Pair) (pair middle_pair : Pair) (low high middle : ℕ) → AllPairs ComesBefore pairs
    → IsNotOutside pairs pair low high
    → low ≤ middle → middle < high → get_or pairs middle pair ≡ middle_pair → ComesBefore middle_pair pair → IsNotOutside pairs pair (middle + 1) high
not_below_middle pairs pair middle_pair low high middle ordered h l m e before = record {
  low_high = omega arith;
  high_len = h.high_len;
  below = λ k s. not_before_middle pairs pair middle_pair high middle k ordered h.high_len m e before s;
  above = h.above;
}

pub not_above_middle : (pairs : List Pair) (pair middle_pair : Pair) (low high middle : ℕ) → AllPairs ComesBefore pairs
    → IsNotOutside pairs pair low high
    → low ≤ middle → middle < high → get_or pairs middle pair ≡ middle_pair → ¬ ComesBefore middle_pair pair → IsNotOutside pairs pair low middle
not_above_middle pairs pair middle_pair low high middle ordered h l m e after = record {
  low_high = l;
  high_len = omega (arith, h.high_len);
  below = h.below;
  above = λ k s t is. after (subst₂ ComesBefore e is (ordered middle k pair s t));
}

-- ---- levels, criterion by criterion
abbrev pub order_of : List ℕ → List ℕ → List ℕ → List ℕ → Ordering
order_of left right other_left other_right = slice_cmp nat_cmp (codes (zip left right)) (codes (zip other_left other_right))

-- the order of four lists is that of their rests
pub record SameSoFar (left right other_left other_right : List ℕ) (place : ℕ) : Type 0 where
  pub order : order_of (drop place left) (drop place right) (drop place other_left) (drop place other_right) ≡ order_of left right other_left other_right

pub record AreAsLong (left right other_left other_right : List ℕ) : Type 0 where
  pub right_len : length right ≡ length left
  pub other_left_len : length other_left ≡ length left
  pub other_right_len : length other_right ≡ length left

drop-at : (xs : List ℕ) (place : ℕ) → place < length xs → drop place xs ≡ get_or xs place 0 ∷ drop (place + 1) xs
drop-at xs place l = let e : place + 1 ≡ suc place = omega arith in rw e (drop-cons xs place 0 l)

-- the order at a place: its left levels, then its right levels, then the rest
pub order_at : (left right other_left other_right : List ℕ) (place : ℕ) → AreAsLong left right other_left other_right → place < length left
    → order_of (drop place left) (drop place right) (drop place other_left) (drop place other_right)
    ≡ ordering_then (nat_cmp (order_level (get_or left place 0)) (order_level (get_or other_left place 0)))
    (ordering_then (nat_cmp (order_level (get_or right place 0)) (order_level (get_or other_right place 0)))
    (order_of (drop (place + 1) left) (drop (place + 1) right) (drop (place + 1) other_left) (drop (place + 1) other_right)))
order_at left right other_left other_right place len l =
    ap₂ (λ a b. order_of a b (drop place other_left) (drop place other_right)) (drop-at left place l) (drop-at right place (omega (arith, len.right_len)))
    ∙ ap₂ (λ a b. order_of (get_or left place 0 ∷ drop (place + 1) left) (get_or right place 0 ∷ drop (place + 1) right) a b)
    (drop-at other_left place (omega (arith, len.other_left_len))) (drop-at other_right place (omega (arith, len.other_right_len)))

cmp_greater : (x y : ℕ) → y < x → nat_cmp x y ≡ Greater
cmp_greater x y h = sym (nat_cmp_is x y Greater h)

greater_not_less : Greater ≡ Less → ⊥
greater_not_less e = cc

-- a test that decides an order at two numbers that differ
pub decided : (x y : ℕ) (rest whole : Ordering) → x ≢ y → ordering_then (nat_cmp x y) rest ≡ whole → IsTrue (ltb x y) ↔ (whole ≡ Less)
decided x y rest whole n e = (
  λ t. sym e ∙ ap (λ o. ordering_then o rest) (cmp_less x y (ltb-true x y t)),
  λ h. elim (cases_order x y) [
    | inl same ↦ absurd (n same)
    | inr apart ↦ elim apart [
      | inl less ↦ lt-ltb x y less
      | inr above ↦ absurd (greater_not_less (sym (ap (λ o. ordering_then o rest) (cmp_greater x y above)) ∙ e ∙ h))
    ]
  ],
)

-- equal numbers leave the order to what follows
pub undecided : (x y : ℕ) (rest : Ordering) → x ≡ y → ordering_then (nat_cmp x y) rest ≡ rest
undecided x y rest e = ap (λ k. ordering_then (nat_cmp x k) rest) (sym e) ∙ ap (λ o. ordering_then o rest) (cmp_same x)

-- ---- what the search found
pub found_at : (pairs : List Pair) (pair : Pair) (low : ℕ) → low < length pairs → get_or pairs low pair ≡ pair → class_at pairs (low + 1) ≡ Some pair
found_at pairs pair low l e =
    let k : low + 1 - 1 ≡ low = omega arith in
    item_of pairs (low + 1) pair (omega arith) (ap (slice_get pairs) k ∙ slice_get-get_or pairs low pair l ∙ ap Some e)

pub nowhere : (pairs : List Pair) (pair : Pair) (low high : ℕ) → IsNotOutside pairs pair low high → high ≤ low
    → (low < length pairs → get_or pairs low pair ≢ pair) → ¬ Contains pairs pair
nowhere pairs pair low high h l n (k, m, e) = elim (cases_order k low) [
  | inl same ↦ n (omega (arith, m, same)) (ap (λ j. get_or pairs j pair) (sym same) ∙ e)
  | inr apart ↦ elim apart [
    | inl less ↦ h.below k less e
    | inr above ↦ h.above k (omega (arith, above, h.low_high)) m e
  ]
]

-- a pair stands at one place only
same_place : (pairs : List Pair) (i j : ℕ) (pair : Pair) → AllPairs ComesBefore pairs → i < length pairs → j < length pairs
    → get_or pairs i pair ≡ pair → get_or pairs j pair ≡ pair → i ≡ j
same_place pairs i j pair ordered a b e f = elim (cases_order i j) [
  | inl same ↦ same
  | inr apart ↦ elim apart [
    | inl less ↦ absurd (not_before_itself pair (subst₂ ComesBefore e f (ordered i j pair less b)))
    | inr above ↦ absurd (not_before_itself pair (subst₂ ComesBefore f e (ordered j i pair above a)))
  ]
]

-- the place before is within the list, and the pair stands there
at_place : (pairs : List Pair) (i : ℕ) (pair : Pair) → class_at pairs i ≡ Some pair
    → (1 ≤ i) × (i - 1 < length pairs) × (get_or pairs (i - 1) pair ≡ pair)
at_place pairs i pair at =
    let found = item_found pairs i pair at in
    (item_positive pairs i pair at, slice_get_within pairs (i - 1) pair found, get_or_from_slice_get pairs (i - 1) pair pair found)

pub stands_once : (pairs : List Pair) (i j : ℕ) (pair : Pair) → AllPairs ComesBefore pairs → class_at pairs i ≡ Some pair
    → class_at pairs j ≡ Some pair → i ≡ j
stands_once pairs i j pair ordered at other_at =
    let a = at_place pairs i pair at in
    let b = at_place pairs j pair other_at in
    omega (arith, a.0, b.0, same_place pairs (i - 1) (j - 1) pair ordered a.1 b.1 a.2 b.2)

pub stands_contains : (pairs : List Pair) (i : ℕ) (pair : Pair) → class_at pairs i ≡ Some pair → Contains pairs pair
stands_contains pairs i pair at = let a = at_place pairs i pair at in (i - 1, a.1, a.2)

pub contains_stands : (pairs : List Pair) (pair : Pair) → Contains pairs pair → (place : ℕ) × (class_at pairs place ≡ Some pair)
contains_stands pairs pair (k, l, e) = (k + 1, found_at pairs pair k l e)
