-- The values of best levels add up to the sum of all values.
use Rattle.std.proofs.Common.{◌≡◌, ℕ, zero, suc, ◌+◌, ◌-◌, ◌*◌, ◌^◌, ◌<◌, ◌≤◌, List, [], ◌∷◌, ◌++◌, length, map, get_or, set, take, drop, sum, fold, All, ℤ, pos, ◌+ℤ◌, ◌≤ℤ◌, unsigned_abs, length-drop, take-append-drop, slice_get, Some, refl, ap, ap₂, sym, ◌∙◌, arith}
use Rattle.std.specs.List.{range_with_len}
use Rattle.std.proofs.lemmas.Int.{ints}
use Rattle.std.proofs.lemmas.List.{drop-drop, take_more_set}
use Rattle.std.proofs.lemmas.List.Sums.{sum_by-cons, fold-append, sum_by_more, sum_by_more_le}
use Rattle.std.proofs.lemmas.List.Elements.{All-take, All-drop}
use Rattle.std.proofs.lemmas.List.FromFn.{length-map-range_with_len, map-range_with_len_more}
use Rattle.row_laws.proofs.Integers.{unsigned_abs-add}
use Rattle.criteria_model.specs.Lists.{IsVector}
use Rattle.criteria_model.specs.Criteria.{Criteria, IsModel}
use Rattle.criteria_model.specs.declared.limits.TheConstants.{MAX_INCREMENTS}
use Rattle.criteria_model.proofs.LevelLemmas.{length-le-increments}
use Rattle.part_worths.specs.declared.apportionment.TheConstants.{WHOLE}
use Rattle.criteria_model.specs.Worth.{increments, IsValueVector}
use Rattle.part_worths.specs.Values.{total, increments_before, best_value, best_values}
use Rattle.part_worths.specs.Laws.{BestValuesAddUp}

total_from : (a : ℤ) (xs : List ℤ) → fold ◌+ℤ◌ a xs ≡ a +ℤ total xs
total_from a [] = omega (arith, ints)
total_from a (x ∷ xs) = omega (arith, ints, total_from (a +ℤ x) xs, total_from (pos 0 +ℤ x) xs)

pub total-cons : (x : ℤ) (xs : List ℤ) → total (x ∷ xs) ≡ x +ℤ total xs
total-cons x xs = omega (arith, ints, total_from (pos 0 +ℤ x) xs)

pub total-append : (xs ys : List ℤ) → total (xs ++ ys) ≡ total xs +ℤ total ys
total-append xs ys = fold-append ◌+ℤ◌ (pos 0) xs ys ∙ total_from (total xs) ys

-- positive numbers have a sum that is as large as their count at least
pub length-le-total : (xs : List ℤ) → All (λ x. pos 1 ≤ℤ x) xs → pos (length xs) ≤ℤ total xs
length-le-total [] h = omega (arith, ints)
length-le-total (x ∷ xs) h = omega (arith, ints, h 0 (pos 0) (omega arith), length-le-total xs (λ k d l. h (suc k) d (omega arith)), total-cons x xs)

abs_sum : (a b : ℤ) → pos 0 ≤ℤ a → pos 0 ≤ℤ b → unsigned_abs (a +ℤ b) ≡ unsigned_abs a + unsigned_abs b
abs_sum a b h k = omega (arith, ints)

abs_total-append : (xs ys : List ℤ) → All (λ x. pos 1 ≤ℤ x) xs → All (λ x. pos 1 ≤ℤ x) ys → unsigned_abs (total (xs ++ ys)) ≡ unsigned_abs (total xs) + unsigned_abs (total ys)
abs_total-append xs ys h k =
    ap unsigned_abs (total-append xs ys)
    ∙ abs_sum (total xs) (total ys) (omega (arith, ints, length-le-total xs h)) (omega (arith, ints, length-le-total ys k))

map_range_same : (f g : ℕ → ℕ) (a n : ℕ) → ((i : ℕ) → f i ≡ g i) → map f (range_with_len a n) ≡ map g (range_with_len a n)
map_range_same f g a zero h = refl
map_range_same f g a (suc n) h = ap₂ (λ (x : ℕ) (xs : List ℕ). x ∷ xs) (h a) (map_range_same f g (a + 1) n h)

map_range_shifted : (f : ℕ → ℕ) (a n : ℕ) → map f (range_with_len (suc a) n) ≡ map (λ i. f (suc i)) (range_with_len a n)
map_range_shifted f a zero = refl
map_range_shifted f a (suc n) =
    let e : suc a + 1 ≡ suc (a + 1) = omega arith in
    ap (λ (xs : List ℕ). f (suc a) ∷ xs) (ap (λ b. map f (range_with_len b n)) e ∙ map_range_shifted f (a + 1) n)

-- the value of the best level of the criterion at a place, counted from 0
abbrev value_at : List ℕ → List ℤ → ℕ → ℕ
value_at levels values place = unsigned_abs (total (take (get_or levels place 0 - 1) (drop (increments (take place levels)) values)))

value_later : (n : ℕ) (levels : List ℕ) (values : List ℤ) (place : ℕ) → value_at (n ∷ levels) values (suc place) ≡ value_at levels (drop (n - 1) values) place
value_later n levels values place =
    let e = sum_by-cons (λ m. m - 1) n (take place levels) in
    ap (λ xs. unsigned_abs (total (take (get_or levels place 0 - 1) xs))) (ap (λ k. drop k values) e ∙ sym (drop-drop (increments (take place levels)) (n - 1) values))

adds_up : (levels : List ℕ) (values : List ℤ) → length values ≡ increments levels → All (λ x. pos 1 ≤ℤ x) values
    → sum (map (value_at levels values) (range_with_len 0 (length levels))) ≡ unsigned_abs (total values)
adds_up [] [] len positive = refl
adds_up [] (x ∷ values) len positive = absurd (omega arith)
adds_up (n ∷ levels) values len positive =
    let front = take (n - 1) values in let rest = drop (n - 1) values in
    let later = map_range_shifted (value_at (n ∷ levels) values) 0 (length levels)
    ∙ map_range_same (λ i. value_at (n ∷ levels) values (suc i)) (value_at levels rest) 0 (length levels) (value_later n levels values) in
    let more = adds_up levels rest (omega (arith, length-drop (n - 1) values, sum_by-cons (λ m. m - 1) n levels, len)) (All-drop (λ x. pos 1 ≤ℤ x) (n - 1) values positive) in
    let parts = abs_total-append front rest (All-take (λ x. pos 1 ≤ℤ x) (n - 1) values positive) (All-drop (λ x. pos 1 ≤ℤ x) (n - 1) values positive) in
    sum_by-cons (λ x. x) (value_at (n ∷ levels) values 0) (map (value_at (n ∷ levels) values) (range_with_len 1 (length levels)))
    ∙ ap (λ xs. unsigned_abs (total front) + sum xs) later ∙ ap (λ k. unsigned_abs (total front) + k) more
    ∙ sym parts ∙ ap (λ xs. unsigned_abs (total xs)) (take-append-drop (n - 1) values)

pub best_values_add_up : BestValuesAddUp
best_values_add_up levels values is =
    ap sum (map_range_shifted (best_value levels values) 0 (length levels)
    ∙ map_range_same (λ i. best_value levels values (suc i)) (value_at levels values) 0 (length levels) (λ i. let e : suc i - 1 ≡ i = omega arith in
    ap (λ k. unsigned_abs (total (take (get_or levels k 0 - 1) (drop (increments (take k levels)) values)))) e))
    ∙ adds_up levels values is.len is.positive

-- how large the sum of a vector's values is
pub total_small : (bound : ℕ) (xs : List ℤ) → All (λ x. unsigned_abs x < bound) xs → unsigned_abs (total xs) ≤ bound * length xs
total_small bound [] h = omega arith
total_small bound (x ∷ xs) h =
    let first = h 0 (pos 0) (omega arith) in
    let rest = total_small bound xs (λ k d l. h (suc k) d (omega arith)) in
    let sum = ap unsigned_abs (total-cons x xs) in
    let more = unsigned_abs-add x (total xs) in omega arith

-- what the shares of a model's criteria rest on: the sum of the best values is positive, and ten thousand times it is small
pub best_values_fit : (levels : List ℕ) (values : List ℤ) → IsVector values → IsValueVector levels values
    → (1 ≤ sum (best_values levels values)) × (WHOLE * sum (best_values levels values) < 2 ^ 128)
best_values_fit levels values list is =
    let all = best_values_add_up levels values is in
    let some = length-le-total values is.positive in
    let small = total_small (2 ^ 96) values list.within in
    let least = list.some in let most = list.most in
    let size : 1 ≤ unsigned_abs (total values) = omega (arith, ints) in
    (omega arith, omega arith)

pub length-best_values : (levels : List ℕ) (values : List ℤ) → length (best_values levels values) ≡ length levels
length-best_values levels values = length-map-range_with_len (best_value levels values) 1 (length levels)

-- the number at a place
pub item_is : (levels : List ℕ) (place n : ℕ) → slice_get levels place ≡ Some n → (place < length levels) × (get_or levels place 0 ≡ n)
item_is [] place n e = absurd cc
item_is (m ∷ levels) zero n e = (omega arith, cc)
item_is (m ∷ levels) (suc place) n e = let rest = item_is levels place n e in (omega (arith, rest.0), rest.1)

-- the increments up to a criterion, and those below a level of it, are no more than all
pub increments_within : (levels : List ℕ) (place n : ℕ) → slice_get levels place ≡ Some n → increments (take place levels) + (n - 1) ≤ increments levels
increments_within levels place n e =
    let item = item_is levels place n e in let m = sum_by_more_le (λ k. k - 1) levels place 0 item.0 in
    let at : get_or levels place 0 - 1 ≡ n - 1 = ap (λ k. k - 1) item.1 in omega arith

-- a step of a loop that counts the increments of the criteria before one
pub increments_more : (levels : List ℕ) (earlier before n m : ℕ) → 1 ≤ earlier → before ≡ increments (take (earlier - 1) levels) → m ≡ n → slice_get levels (earlier - 1) ≡ Some n
    → (before + (m - 1) ≤ increments levels) × (before + (m - 1) ≡ increments (take (earlier + 1 - 1) levels))
increments_more levels earlier before n m some kept same e =
    let item = item_is levels (earlier - 1) n e in let all = increments_within levels (earlier - 1) n e in
    let more = sum_by_more (λ k. k - 1) levels (earlier - 1) 0 item.0 in
    let at : get_or levels (earlier - 1) 0 - 1 ≡ n - 1 = ap (λ k. k - 1) item.1 in
    let on : earlier - 1 + 1 ≡ earlier + 1 - 1 = omega arith in
    let next = ap (λ k. increments (take k levels)) on in
    (omega arith, omega arith)

-- a step of a loop that writes the value of each best level
pub best_step : (levels : List ℕ) (values : List ℤ) (items : List ℕ) (i y : ℕ) → i < length items → take i items ≡ map (best_value levels values) (range_with_len 1 i) → y ≡ best_value levels values (i + 1)
    → take (i + 1) (set items i y) ≡ map (best_value levels values) (range_with_len 1 (i + 1))
best_step levels values items i y l front item =
    take_more_set items i y l ∙ ap (λ (zs : List ℕ). zs ++ y ∷ []) front ∙ ap (λ (z : ℕ). map (best_value levels values) (range_with_len 1 i) ++ z ∷ []) item
    ∙ sym (map-range_with_len_more (best_value levels values) 1 i (i + 1) (omega arith))

-- a model has no more criteria than increments
pub few_criteria : (criteria : Criteria) → IsModel criteria → length criteria.levels ≤ MAX_INCREMENTS
few_criteria criteria is = omega (arith, length-le-increments criteria.levels is.two_levels, is.few_increments)

-- where the increments of a criterion below a level lie
pub level_within : (levels : List ℕ) (criterion level : ℕ) → 1 ≤ criterion → criterion ≤ length levels → level ≤ get_or levels (criterion - 1) 0
    → increments_before levels criterion + (level - 1) ≤ increments levels
level_within levels criterion level low high best = let m = sum_by_more_le (λ k. k - 1) levels (criterion - 1) 0 (omega arith) in omega arith
