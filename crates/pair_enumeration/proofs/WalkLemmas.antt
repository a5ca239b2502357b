-- The steps of the walk that lists all classes.
use Rattle.std.proofs.Common.{◌≡◌, ℕ, zero, suc, ◌+◌, ◌-◌, ◌≤◌, ◌<◌, ◌∙◌, List, [], ◌∷◌, ◌++◌, length, take, drop, map, slice_index, flat_map, Option, Some, None, refl, ap, ap₂, sym, subst, arith, append_assoc, append-nil, length-drop, All, drop-cons, Result, Ok, Err, OnOk}
use Rattle.std.specs.List.{range_with_len}
use Rattle.std.specs.Option.{option_map_or}
use Rattle.std.proofs.lemmas.List.{map-append}
use Rattle.std.proofs.lemmas.List.Elements.{All-push}
use Rattle.std.proofs.lemmas.List.Concat.{flat_map-append}
use Rattle.criteria_model.specs.declared.pairs.Pair.{Pair}
use Rattle.criteria_model.proofs.CountLemmas.{range_with_len-more}
use Rattle.pair_enumeration.specs.declared.walks.Stage.{Stage}
use Rattle.pair_enumeration.specs.declared.walks.Stage.TheVariants.{Same}
use Rattle.pair_enumeration.specs.declared.walks.Walk.{Walk}
use Rattle.pair_enumeration.specs.Walks.{stage_after, Tail, with_levels, option_tails, row_tails, differing_tails, tails, joined, IsWalk, pairs_from, found_from, found_with}

-- the items so far are those at the beginning, and the pairs with a lower left level on the next criterion
pub record ListsLevels (counts : List ℕ) (walk : Walk) (level : ℕ) (before now : List Pair) : Type 0 where
  pub items : now ≡ before ++ pairs_from walk (flat_map (row_tails (λ next. tails (drop (walk.place + 1) counts) (walk.rest - 1) next) walk.stage (slice_index counts walk.place)) (range_with_len 1 (level - 1)))

-- the same with this left level and a lower right level
pub record ListsRow (counts : List ℕ) (walk : Walk) (left right : ℕ) (before now : List Pair) : Type 0 where
  pub items : now ≡ before ++ pairs_from walk (flat_map (option_tails (λ next. tails (drop (walk.place + 1) counts) (walk.rest - 1) next) walk.stage left) (range_with_len 1 (right - 1)))

-- the items so far are the classes of a lower degree
pub record ListsDegrees (counts : List ℕ) (degree : ℕ) (now : List Pair) : Type 0 where
  pub items : now ≡ flat_map (λ d. map (joined [] []) (tails counts d Same)) (range_with_len 2 (degree - 2))

flat_map-range-more : {A : Type 0} (f : ℕ → List A) (a n : ℕ) → flat_map f (range_with_len a (n + 1)) ≡ flat_map f (range_with_len a n) ++ f (a + n)
flat_map-range-more f a n =
    ap (flat_map f) (range_with_len-more a n)
    ∙ flat_map-append f (range_with_len a n) ((a + n) ∷ [])
    ∙ ap (λ r. flat_map f (range_with_len a n) ++ r) (append-nil (f (a + n)))

-- one number more in a range from 1
flat_map-up_to : {A : Type 0} (f : ℕ → List A) (i : ℕ) → 1 ≤ i
    → flat_map f (range_with_len 1 (i + 1 - 1)) ≡ flat_map f (range_with_len 1 (i - 1)) ++ f i
flat_map-up_to f i l =
    let e : i + 1 - 1 ≡ i - 1 + 1 = omega arith in
    let g : 1 + (i - 1) ≡ i = omega arith in
    ap (λ n. flat_map f (range_with_len 1 n)) e ∙ flat_map-range-more f 1 (i - 1) ∙ ap (λ n. flat_map f (range_with_len 1 (i - 1)) ++ f n) g

pairs_from-append : (walk : Walk) (a b : List Tail) → pairs_from walk (a ++ b) ≡ pairs_from walk a ++ pairs_from walk b
pairs_from-append walk a b = map-append (joined (take walk.place walk.left) (take walk.place walk.right)) a b

-- items that grew twice
grown : (walk : Walk) (before now new : List Pair) (a b c : List Tail) → now ≡ before ++ pairs_from walk a → new ≡ now ++ pairs_from walk b
    → c ≡ a ++ b → new ≡ before ++ pairs_from walk c
grown walk before now new a b c e f g =
    f ∙ ap (λ r. r ++ pairs_from walk b) e ∙ append_assoc before (pairs_from walk a) (pairs_from walk b)
    ∙ ap (λ r. before ++ r) (sym (pairs_from-append walk a b) ∙ ap (pairs_from walk) (sym g))

-- ---- a walk and the walk after one more criterion
pub record IsNext (walk next : Walk) (left right : ℕ) : Type 0 where
  pub place : next.place ≡ walk.place + 1
  pub left_is : take (walk.place + 1) next.left ≡ take walk.place walk.left ++ left ∷ []
  pub right_is : take (walk.place + 1) next.right ≡ take walk.place walk.right ++ right ∷ []

joined-next : (l r : List ℕ) (left right : ℕ) (tail : Tail) → joined (l ++ left ∷ []) (r ++ right ∷ []) tail ≡ joined l r ((left, right) ∷ tail)
joined-next l r left right tail =
    ap₂ (λ (x : List ℕ) (y : List ℕ). let p : Pair = record { left = x; right = y } in p)
    (append_assoc l (left ∷ []) (map (λ p. p.0) tail)) (append_assoc r (right ∷ []) (map (λ p. p.1) tail))

map-joined-next : (l r : List ℕ) (left right : ℕ) (ways : List Tail)
    → map (joined (l ++ left ∷ []) (r ++ right ∷ [])) ways ≡ map (joined l r) (with_levels left right ways)
map-joined-next l r left right [] = refl
map-joined-next l r left right (tail ∷ ways) = ap₂ (λ p ps. p ∷ ps) (joined-next l r left right tail) (map-joined-next l r left right ways)

pub found_next : (counts : List ℕ) (walk next : Walk) (left right : ℕ) → IsNext walk next left right
    → found_from counts next ≡ pairs_from walk (with_levels left right (tails (drop (walk.place + 1) counts) next.rest next.stage))
found_next counts walk next left right h =
    ap (λ n. map (joined (take n next.left) (take n next.right)) (tails (drop n counts) next.rest next.stage)) h.place
    ∙ ap₂ (λ l r. map (joined l r) (tails (drop (walk.place + 1) counts) next.rest next.stage)) h.left_is h.right_is
    ∙ map-joined-next (take walk.place walk.left) (take walk.place walk.right) left right (tails (drop (walk.place + 1) counts) next.rest next.stage)

all_push : (xs : List ℕ) (y : ℕ) → All (λ n. n ≤ 25) xs → y ≤ 25 → All (λ n. n ≤ 25) (xs ++ y ∷ [])
all_push xs y h l = All-push (λ n. n ≤ 25) xs y h l

pub next_is_walk : (counts : List ℕ) (walk next : Walk) (left right : ℕ) → IsWalk counts walk → walk.place < length counts → left ≤ 25 → right ≤ 25
    → IsNext walk next left right → IsWalk counts next
next_is_walk counts walk next left right h more l r e = record {
  some = h.some;
  most = h.most;
  levels = h.levels;
  place = omega (arith, e.place);
  left = subst (λ (xs : List ℕ). All (λ n. n ≤ 25) xs) (sym (ap (λ n. take n next.left) e.place ∙ e.left_is)) (all_push _ left h.left l);
  right = subst (λ (xs : List ℕ). All (λ n. n ≤ 25) xs) (sym (ap (λ n. take n next.right) e.place ∙ e.right_is)) (all_push _ right h.right r);
}

-- ---- the tails
tails-nil : (d : ℕ) (stage : Stage) → 0 < d → tails [] d stage ≡ []
tails-nil zero stage h = absurd (omega arith)
tails-nil (suc d) stage h = refl

flat_map-nil : {A : Type 0} (f : ℕ → List A) (xs : List ℕ) → ((x : ℕ) → f x ≡ []) → flat_map f xs ≡ []
flat_map-nil f [] h = refl
flat_map-nil f (x ∷ xs) h = ap₂ (λ a b. a ++ b) (h x) (flat_map-nil f xs h)

option_tails-nil : (rest : Stage → List Tail) (left right : ℕ) (o : Option Stage) → ((next : Stage) → rest next ≡ [])
    → option_map_or (λ next. with_levels left right (rest next)) o [] ≡ []
option_tails-nil rest left right None h = refl
option_tails-nil rest left right (Some next) h = ap (with_levels left right) (h next)

differing_tails-nil : (rest : Stage → List Tail) (stage : Stage) (n : ℕ) → ((next : Stage) → rest next ≡ []) → differing_tails rest stage n ≡ []
differing_tails-nil rest stage n h =
    flat_map-nil (row_tails rest stage n) (range_with_len 1 n)
    (λ left. flat_map-nil (option_tails rest stage left) (range_with_len 1 n) (λ right. option_tails-nil rest left right (stage_after stage left right) h))

-- no way to differ on more criteria than there are
pub tails-short : (levels : List ℕ) (d : ℕ) (stage : Stage) → length levels < d → tails levels d stage ≡ []
tails-short [] zero stage h = absurd (omega arith)
tails-short [] (suc d) stage h = refl
tails-short (n ∷ levels) zero stage h = absurd (omega arith)
tails-short (n ∷ levels) (suc d) stage h =
    ap₂ (λ a b. a ++ b)
    (differing_tails-nil (λ next. tails levels d next) stage n (λ next. tails-short levels d next (omega arith)))
    (ap (with_levels 0 0) (tails-short levels (suc d) stage (omega arith)))

-- the first criterion of a rest: its differences, then it cancelled
pub tails-next : (n : ℕ) (levels : List ℕ) (d : ℕ) (stage : Stage) → 0 < d
    → tails (n ∷ levels) d stage ≡ differing_tails (λ next. tails levels (d - 1) next) stage n ++ with_levels 0 0 (tails levels d stage)
tails-next n levels zero stage h = absurd (omega arith)
tails-next n levels (suc d) stage h =
    let e : suc d - 1 ≡ d = omega arith in
    ap (λ k. differing_tails (λ next. tails levels k next) stage n ++ with_levels 0 0 (tails levels (suc d) stage)) (sym e)

-- ---- the loops' steps
pub row_more : (counts : List ℕ) (walk next : Walk) (left right : ℕ) (stage : Stage) (before now new : List Pair) → 1 ≤ right
    → ListsRow counts walk left right before now → stage_after walk.stage left right ≡ Some stage
    → IsNext walk next left right → next.rest ≡ walk.rest - 1 → next.stage ≡ stage
    → new ≡ now ++ found_from counts next
    → ListsRow counts walk left (right + 1) before new
row_more counts walk next left right stage before now new l h s e r k g = record {
  items =
      grown walk before now new _ (option_tails (λ next. tails (drop (walk.place + 1) counts) (walk.rest - 1) next) walk.stage left right) _ h.items
      (g ∙ ap (λ x. now ++ x) (found_next counts walk next left right e ∙ ap₂ (λ a b. pairs_from walk (with_levels left right (tails (drop (walk.place + 1) counts) a b))) r k
      ∙ ap (λ o. pairs_from walk (option_map_or (λ next. with_levels left right (tails (drop (walk.place + 1) counts) (walk.rest - 1) next)) o [])) (sym s)))
      (flat_map-up_to (option_tails (λ next. tails (drop (walk.place + 1) counts) (walk.rest - 1) next) walk.stage left) right l);
}

pub row_same : (counts : List ℕ) (walk : Walk) (left right : ℕ) (before now : List Pair) → 1 ≤ right
    → ListsRow counts walk left right before now → stage_after walk.stage left right ≡ None
    → ListsRow counts walk left (right + 1) before now
row_same counts walk left right before now l h s = record {
  items =
      grown walk before now now _ (option_tails (λ next. tails (drop (walk.place + 1) counts) (walk.rest - 1) next) walk.stage left right) _ h.items
      (sym (append-nil now) ∙ ap (λ o. now ++ pairs_from walk (option_map_or (λ next. with_levels left right (tails (drop (walk.place + 1) counts) (walk.rest - 1) next)) o [])) (sym s))
      (flat_map-up_to (option_tails (λ next. tails (drop (walk.place + 1) counts) (walk.rest - 1) next) walk.stage left) right l);
}

pub levels_more : (counts : List ℕ) (walk : Walk) (level : ℕ) (before now new : List Pair) → 1 ≤ level
    → ListsLevels counts walk level before now → new ≡ now ++ found_with counts walk (slice_index counts walk.place) level
    → ListsLevels counts walk (level + 1) before new
levels_more counts walk level before now new l h g = record {
  items =
      grown walk before now new _ (row_tails (λ next. tails (drop (walk.place + 1) counts) (walk.rest - 1) next) walk.stage (slice_index counts walk.place) level) _ h.items g
      (flat_map-up_to (row_tails (λ next. tails (drop (walk.place + 1) counts) (walk.rest - 1) next) walk.stage (slice_index counts walk.place)) level l);
}

-- ---- the end of the walk
pub nothing_found : (counts : List ℕ) (walk : Walk) (now : List Pair) → length counts - walk.place < walk.rest → now ≡ now ++ found_from counts walk
nothing_found counts walk now h =
    sym (append-nil now)
    ∙ ap (λ ways. now ++ pairs_from walk ways) (sym (tails-short (drop walk.place counts) walk.rest walk.stage (omega (arith, length-drop walk.place counts))))

drop-next : (counts : List ℕ) (place : ℕ) → place < length counts → drop place counts ≡ slice_index counts place ∷ drop (place + 1) counts
drop-next counts place l = let e : place + 1 ≡ suc place = omega arith in rw e (drop-cons counts place 0 l)

pub cancelled_found : (counts : List ℕ) (walk next : Walk) (before new : List Pair) → walk.place < length counts → walk.rest ≡ 0
    → IsNext walk next 0 0 → next.rest ≡ walk.rest → next.stage ≡ walk.stage → new ≡ before ++ found_from counts next
    → new ≡ before ++ found_from counts walk
cancelled_found counts walk next before new l z e r k g =
    g ∙ ap (λ x. before ++ x)
    (found_next counts walk next 0 0 e
    ∙ ap₂ (λ a b. pairs_from walk (with_levels 0 0 (tails (drop (walk.place + 1) counts) a b))) (r ∙ z) k
    ∙ ap₂ (λ xs d. pairs_from walk (tails xs d walk.stage)) (sym (drop-next counts walk.place l)) (sym z))

pub levels_done : (counts : List ℕ) (walk next : Walk) (level : ℕ) (before now new : List Pair) → walk.place < length counts → 0 < walk.rest
    → ListsLevels counts walk level before now → level ≡ slice_index counts walk.place + 1
    → IsNext walk next 0 0 → next.rest ≡ walk.rest → next.stage ≡ walk.stage → new ≡ now ++ found_from counts next
    → new ≡ before ++ found_from counts walk
levels_done counts walk next level before now new l p h n e r k g =
    let last : level - 1 ≡ slice_index counts walk.place = omega arith in
    grown walk before now new (differing_tails (λ next. tails (drop (walk.place + 1) counts) (walk.rest - 1) next) walk.stage (slice_index counts walk.place))
    (with_levels 0 0 (tails (drop (walk.place + 1) counts) walk.rest walk.stage))
    (tails (drop walk.place counts) walk.rest walk.stage)
    (h.items ∙ ap (λ m. before ++ pairs_from walk (flat_map (row_tails (λ next. tails (drop (walk.place + 1) counts) (walk.rest - 1) next) walk.stage (slice_index counts walk.place)) (range_with_len 1 m))) last)
    (g ∙ ap (λ x. now ++ x) (found_next counts walk next 0 0 e ∙ ap₂ (λ a b. pairs_from walk (with_levels 0 0 (tails (drop (walk.place + 1) counts) a b))) r k))
    (ap (λ xs. tails xs walk.rest walk.stage) (drop-next counts walk.place l) ∙ tails-next (slice_index counts walk.place) (drop (walk.place + 1) counts) walk.rest walk.stage p)

pub on_ok : {X E P Q : Type 0} (r : Result X E) → (P → Q) → OnOk r P → OnOk r Q
on_ok (Ok x) f h = f h
on_ok (Err e) f h = h

-- one degree more
pub degrees_more : (counts : List ℕ) (degree : ℕ) (start : Walk) (now new : List Pair) → 2 ≤ degree → ListsDegrees counts degree now
    → start.place ≡ 0 → start.rest ≡ degree → start.stage ≡ Same → new ≡ now ++ found_from counts start → ListsDegrees counts (degree + 1) new
degrees_more counts degree start now new l h p r k g =
    let f : ℕ → List Pair = λ d. map (joined [] []) (tails counts d Same) in
    let e : degree + 1 - 2 ≡ degree - 2 + 1 = omega arith in
    let i : 2 + (degree - 2) ≡ degree = omega arith in
    let found : found_from counts start ≡ f degree =
    ap (λ n. map (joined (take n start.left) (take n start.right)) (tails (drop n counts) start.rest start.stage)) p
    ∙ ap₂ (λ d stage. map (joined [] []) (tails counts d stage)) r k in
    record {
      items =
          g ∙ ap₂ (λ a b. a ++ b) h.items (found ∙ ap f (sym i))
          ∙ sym (flat_map-range-more f 2 (degree - 2))
          ∙ ap (λ n. flat_map f (range_with_len 2 n)) (sym e);
    }
