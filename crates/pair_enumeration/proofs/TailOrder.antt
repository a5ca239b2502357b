-- The tails stand in the order of the class list.
use Rattle.std.proofs.Common.{◌≡◌, ◌≢◌, ◌⊎◌, inl, inr, ℕ, zero, suc, ◌-◌, ◌≤◌, ◌<◌, List, [], ◌∷◌, map, All, cond, Option, Some, None, refl, ap, ap₂, sym, ◌∙◌, subst, subst₂, arith, ne_eqb, nat_cmp, Less, Equal, eq-or-lt_of_le}
use Rattle.std.specs.List.{range_with_len}
use Rattle.std.specs.Option.{option_map_or}
use Rattle.std.specs.Ordering.{ordering_then}
use Rattle.std.specs.Cmp.{nat_cmp_is}
use Rattle.std.specs.Cmp.Lexicographic.{slice_cmp}
use Rattle.criteria_model.specs.Classes.{order_level, order_key, ComesBefore}
use Rattle.pair_enumeration.specs.declared.walks.Stage.{Stage}
use Rattle.pair_enumeration.specs.declared.walks.Stage.TheVariants.{Same, Left, Both}
use Rattle.pair_enumeration.specs.Walks.{stage_after, Tail, with_levels, option_tails, row_tails, differing_tails, tails, joined, listed_classes, codes, Precedes}
use Rattle.pair_enumeration.proofs.Members.{Among, Sorted, among-map, among-flat_map, among-range, sorted-append, sorted-map, sorted-flat_map-range}
use Rattle.pair_enumeration.proofs.TailMembers.{option_found, differing_found, tails_are}
use Rattle.pair_enumeration.proofs.TailClasses.{from_tail, after_differs, zip-lefts}

pub cmp_less : (a b : ℕ) → a < b → nat_cmp a b ≡ Less
cmp_less a b h = sym (nat_cmp_is a b Less h)

pub cmp_same : (a : ℕ) → nat_cmp a a ≡ Equal
cmp_same a = sym (nat_cmp_is a a Equal refl)

-- ---- heads decide, or tails do
pub precedes_left : (a b c d : ℕ) (xs ys : List ℕ) → a < c → slice_cmp nat_cmp (a ∷ b ∷ xs) (c ∷ d ∷ ys) ≡ Less
precedes_left a b c d xs ys h = ap (λ r. ordering_then r (slice_cmp nat_cmp (b ∷ xs) (d ∷ ys))) (cmp_less a c h)

pub precedes_right : (a b d : ℕ) (xs ys : List ℕ) → b < d → slice_cmp nat_cmp (a ∷ b ∷ xs) (a ∷ d ∷ ys) ≡ Less
precedes_right a b d xs ys h =
    ap (λ r. ordering_then r (slice_cmp nat_cmp (b ∷ xs) (d ∷ ys))) (cmp_same a)
    ∙ ap (λ r. ordering_then r (slice_cmp nat_cmp xs ys)) (cmp_less b d h)

pub precedes_rest : (a b : ℕ) (xs ys : List ℕ) → slice_cmp nat_cmp xs ys ≡ Less → slice_cmp nat_cmp (a ∷ b ∷ xs) (a ∷ b ∷ ys) ≡ Less
precedes_rest a b xs ys h =
    ap (λ r. ordering_then r (slice_cmp nat_cmp (b ∷ xs) (b ∷ ys))) (cmp_same a)
    ∙ ap (λ r. ordering_then r (slice_cmp nat_cmp xs ys)) (cmp_same b)
    ∙ h

pub level_is : (x : ℕ) → 1 ≤ x → order_level x ≡ x
level_is x h = ap (λ b. cond b 25 x) (ne_eqb x 0 (λ e. omega arith))

-- two differences on one criterion
differing_precede : (l r l' r' : ℕ) (t u : Tail) → 1 ≤ l → 1 ≤ r → 1 ≤ l' → 1 ≤ r' → ((l < l') ⊎ ((l ≡ l') × (r < r')))
    → Precedes ((l, r) ∷ t) ((l', r') ∷ u)
differing_precede l r l' r' t u a b c d (inl h) =
    precedes_left (order_level l) (order_level r) (order_level l') (order_level r') (codes t) (codes u) (omega (arith, level_is l a, level_is l' c))
differing_precede l r l' r' t u a b c d (inr h) =
    subst (λ k. slice_cmp nat_cmp (order_level l ∷ order_level r ∷ codes t) (order_level k ∷ order_level r' ∷ codes u) ≡ Less) h.0
    (precedes_right (order_level l) (order_level r) (order_level r') (codes t) (codes u) (omega (arith, level_is r b, level_is r' d, h.1)))

-- a difference stands before the cancelled criterion
cancelled_last : (l r : ℕ) (t u : Tail) → 1 ≤ l → l ≤ 25 → 1 ≤ r → r ≤ 25 → l ≢ r → Precedes ((l, r) ∷ t) ((0, 0) ∷ u)
cancelled_last l r t u a b c d m = elim (eq-or-lt_of_le b) [
  | inl e ↦ subst (λ k. slice_cmp nat_cmp (order_level l ∷ order_level r ∷ codes t) (k ∷ 25 ∷ codes u) ≡ Less) (level_is l a ∙ e)
      (precedes_right (order_level l) (order_level r) 25 (codes t) (codes u) (omega (arith, level_is r c, e, m)))
  | inr h ↦ precedes_left (order_level l) (order_level r) 25 25 (codes t) (codes u) (omega (arith, level_is l a, h))
]

-- ---- the tails are sorted
with_levels_sorted : (l r : ℕ) (ts : List Tail) → Sorted Precedes ts → Sorted Precedes (with_levels l r ts)
with_levels_sorted l r ts h =
    sorted-map Precedes Precedes (λ t. (l, r) ∷ t) ts (λ t u m n k. precedes_rest (order_level l) (order_level r) (codes t) (codes u) k) h

option_sorted : (rest : Stage → List Tail) (o : Option Stage) (l r : ℕ) → ((next : Stage) → Sorted Precedes (rest next))
    → Sorted Precedes (option_map_or (λ next. with_levels l r (rest next)) o [])
option_sorted rest None l r h = tt
option_sorted rest (Some next) l r h = with_levels_sorted l r (rest next) (h next)

row_head : (rest : Stage → List Tail) (stage : Stage) (n l : ℕ) (t : Tail) → Among t (row_tails rest stage n l)
    → (r : ℕ) × (1 ≤ r) × (u : Tail) × ((l, r) ∷ u ≡ t)
row_head rest stage n l t h =
    let a = among-flat_map (option_tails rest stage l) t (range_with_len 1 n) h in
    let b = among-range a.0 1 n a.1 in
    let found = option_found rest (stage_after stage l a.0) l a.0 t a.2 in
    (a.0, b.0, found.2.0, found.2.2)

row_sorted : (rest : Stage → List Tail) (stage : Stage) (n l : ℕ) → 1 ≤ l → ((next : Stage) → Sorted Precedes (rest next))
    → Sorted Precedes (row_tails rest stage n l)
row_sorted rest stage n l low h =
    sorted-flat_map-range Precedes (option_tails rest stage l) 1 n
    (λ r a b. option_sorted rest (stage_after stage l r) l r h)
    (λ r s t u a b c m k.
    let x = option_found rest (stage_after stage l r) l r t m in
    let y = option_found rest (stage_after stage l s) l s u k in
    subst₂ Precedes x.2.2 y.2.2 (differing_precede l r l s x.2.0 y.2.0 low a low (omega arith) (inr (refl, b))))

differing_sorted : (rest : Stage → List Tail) (stage : Stage) (n : ℕ) → ((next : Stage) → Sorted Precedes (rest next))
    → Sorted Precedes (differing_tails rest stage n)
differing_sorted rest stage n h =
    sorted-flat_map-range Precedes (row_tails rest stage n) 1 n
    (λ l a b. row_sorted rest stage n l a h)
    (λ l m t u a b c p q.
    let x = row_head rest stage n l t p in
    let y = row_head rest stage n m u q in
    subst₂ Precedes x.3 y.3 (differing_precede l x.0 m y.0 x.2 y.2 a x.1 (omega arith) y.1 (inl b)))

pub tails_sorted : (levels : List ℕ) (d : ℕ) (stage : Stage) → All (λ n. n ≤ 25) levels → Sorted Precedes (tails levels d stage)
tails_sorted [] zero Same few = tt
tails_sorted [] zero Left few = tt
tails_sorted [] zero Both few = (λ t h. absurd h, tt)
tails_sorted [] (suc d) stage few = tt
tails_sorted (n ∷ levels) zero stage few = with_levels_sorted 0 0 (tails levels 0 stage) (tails_sorted levels 0 stage (λ k d l. few (suc k) d (omega arith)))
tails_sorted (n ∷ levels) (suc d) stage few =
    sorted-append Precedes (differing_tails (λ next. tails levels d next) stage n) (with_levels 0 0 (tails levels (suc d) stage))
    (differing_sorted (λ next. tails levels d next) stage n (λ next. tails_sorted levels d next (λ k d l. few (suc k) d (omega arith))))
    (with_levels_sorted 0 0 (tails levels (suc d) stage) (tails_sorted levels (suc d) stage (λ k d l. few (suc k) d (omega arith))))
    (λ t u m k.
    let x = differing_found (λ next. tails levels d next) stage n t m in
    let y = among-map (λ v. (0, 0) ∷ v) u (tails levels (suc d) stage) k in
    let most = few 0 0 (omega arith) in
    subst₂ Precedes x.4.2 y.2
    (cancelled_last x.0 x.1 x.4.0 y.0 x.3.left_low (omega (arith, x.3.left_high, most)) x.3.right_low (omega (arith, x.3.right_high, most)) (after_differs stage x.2 x.0 x.1 x.3.after)))

-- ---- and so are the classes
key_is : (levels : List ℕ) (d : ℕ) (t : Tail) → Among t (tails levels d Same) → order_key (joined [] [] t) ≡ d ∷ codes t
key_is levels d t h =
    let r = from_tail levels d Same t (tails_are levels d Same t h) in
    ap₂ (λ (k : ℕ) (u : Tail). k ∷ codes u) (sym r.degree_of) (zip-lefts t)

pub precedes_comes_before : (levels : List ℕ) (d : ℕ) (t u : Tail) → Among t (tails levels d Same) → Among u (tails levels d Same) → Precedes t u
    → ComesBefore (joined [] [] t) (joined [] [] u)
precedes_comes_before levels d t u m k h =
    ap₂ (λ a b. slice_cmp nat_cmp a b) (key_is levels d t m) (key_is levels d u k)
    ∙ ap (λ r. ordering_then r (slice_cmp nat_cmp (codes t) (codes u))) (cmp_same d)
    ∙ h

degree_comes_before : (levels : List ℕ) (d e : ℕ) (t u : Tail) → Among t (tails levels d Same) → Among u (tails levels e Same) → d < e
    → ComesBefore (joined [] [] t) (joined [] [] u)
degree_comes_before levels d e t u m k h =
    ap₂ (λ a b. slice_cmp nat_cmp a b) (key_is levels d t m) (key_is levels e u k)
    ∙ ap (λ r. ordering_then r (slice_cmp nat_cmp (codes t) (codes u))) (cmp_less d e h)

pub listed_sorted : (levels : List ℕ) (limit : ℕ) → All (λ n. n ≤ 25) levels → Sorted ComesBefore (listed_classes levels limit)
listed_sorted levels limit few =
    sorted-flat_map-range ComesBefore (λ d. map (joined [] []) (tails levels d Same)) 2 (limit - 1)
    (λ d a b. sorted-map Precedes ComesBefore (joined [] []) (tails levels d Same) (precedes_comes_before levels d) (tails_sorted levels d Same few))
    (λ d e p q a b c m k.
    let x = among-map (joined [] []) p (tails levels d Same) m in
    let y = among-map (joined [] []) q (tails levels e Same) k in
    subst₂ ComesBefore x.2 y.2 (degree_comes_before levels d e x.0 y.0 x.1 y.1 b))
