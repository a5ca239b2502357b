-- Shares add up to the whole.
use Rattle.std.proofs.Common.{◌≡◌, ℕ, ◌+◌, ◌-◌, ◌*◌, ◌/◌, ◌<◌, ◌≤◌, cond, List, [], ◌∷◌, ◌++◌, length, map, get_or, set, take, sum, sum_by, count_by, nat_lt, refl, ap, ap₂, sym, subst, ◌∙◌, arith}
use Rattle.std.specs.List.{range_with_len}
use mathlib.Core.Logic.{dite}
use native.Mathlib.Decide.{dec_le}
use Rattle.std.proofs.Math.Nat.{div-add-mod, mod-lt, mul-le-mul_left}
use Rattle.std.proofs.lemmas.Bool.Decides.{nat_tests}
use Rattle.std.proofs.lemmas.List.{length-map, take_more_set}
use Rattle.std.proofs.lemmas.List.FromFn.{length-range_with_len, fill_by_all, length-map-range_with_len, map-range_with_len_more}
use Rattle.std.proofs.lemmas.List.Sums.{sum_by-cons, sum-map, sum_by-le, sum_by_more, sum_by_more_le}
use Rattle.part_worths.specs.declared.apportionment.TheConstants.{WHOLE}
use Rattle.part_worths.specs.Apportionment.{rounded_down, remainder, remainders, missing, is_before, count_before, share_at, shares_of, IsShares}
use Rattle.part_worths.specs.Laws.{SharesAddUp}
use Rattle.part_worths.proofs.Ranks.{IsOrder, distinct_range, count_ranked}

pub is_order : (numbers : List ℕ) → IsOrder (is_before numbers)
is_order numbers = record {
  irreflexive = λ i. grind (arith, nat_tests);
  transitive = λ i j k f g. grind (arith, nat_tests);
  total = λ i j other f. grind (arith, nat_tests);
}

sum_cons : (x : ℕ) (xs : List ℕ) → sum (x ∷ xs) ≡ x + sum xs
sum_cons x xs = sum_by-cons (λ y. y) x xs

-- the parts that are rounded down, and what is left over, are together the whole for each unit of the total
parts_and_rest : (total : ℕ) (xs : List ℕ) → total * sum_by (rounded_down total) xs + sum_by (remainder total) xs ≡ WHOLE * sum xs
parts_and_rest total [] = omega arith
parts_and_rest total (x ∷ xs) =
    let parts = sum_by-cons (rounded_down total) x xs in
    let apart : total * sum_by (rounded_down total) (x ∷ xs) ≡ total * (WHOLE * x / total) + total * sum_by (rounded_down total) xs = ap (λ n. total * n) parts ∙ omega arith in
    omega (arith, sum_by-cons (remainder total) x xs, sum_cons x xs, div-add-mod (WHOLE * x) total, parts_and_rest total xs)

rest_small : (total : ℕ) (xs : List ℕ) → 1 ≤ total → sum_by (remainder total) xs ≤ length xs * (total - 1)
rest_small total xs some = sum_by-le (remainder total) (total - 1) xs (λ k d l. let m = mod-lt (WHOLE * get_or xs k d) {m = total} some in omega arith)

too_many : (f total rest : ℕ) → 1 ≤ total → total * f + rest ≡ WHOLE * total → WHOLE + 1 ≤ f → ⊥
too_many f total rest some all more =
    let least : total * (WHOLE + 1) ≤ total * f = mul-le-mul_left total more in omega arith

too_few : (n f total rest : ℕ) → 1 ≤ total → total * f + rest ≡ WHOLE * total → rest ≤ n * (total - 1) → f + n + 1 ≤ WHOLE → ⊥
too_few n f total rest some all small less =
    let most : total * (f + n + 1) ≤ total * WHOLE = mul-le-mul_left total less in
    let lower : n * (total - 1) ≤ n * total = mul-le-mul_left n (omega arith) in omega arith

within : (n f total rest : ℕ) → 1 ≤ total → total * f + rest ≡ WHOLE * total → rest ≤ n * (total - 1) → (f ≤ WHOLE) × (WHOLE - f ≤ n)
within n f total rest some all small = (
  dite (dec_le f WHOLE) (λ h. h) (λ h. absurd (too_many f total rest some all (omega arith))),
  dite (dec_le (WHOLE - f) n) (λ h. h) (λ h. absurd (too_few n f total rest some all small (omega arith))),
)

-- no more is missing than there are items
pub missing_within : (xs : List ℕ) → 1 ≤ sum xs → (sum_by (rounded_down (sum xs)) xs ≤ WHOLE) × (missing xs ≤ length xs)
missing_within xs some = within (length xs) (sum_by (rounded_down (sum xs)) xs) (sum xs) (sum_by (remainder (sum xs)) xs) some (parts_and_rest (sum xs) xs) (rest_small (sum xs) xs some)

sum_by_sum : (f g : ℕ → ℕ) (xs : List ℕ) → sum_by (λ x. f x + g x) xs ≡ sum_by f xs + sum_by g xs
sum_by_sum f g [] = refl
sum_by_sum f g (x ∷ xs) = omega (arith, sum_by-cons (λ y. f y + g y) x xs, sum_by-cons f x xs, sum_by-cons g x xs, sum_by_sum f g xs)

map_after : (f g : ℕ → ℕ) (xs : List ℕ) → map f (map g xs) ≡ map (λ x. f (g x)) xs
map_after f g [] = refl
map_after f g (x ∷ xs) = ap (λ ys. f (g x) ∷ ys) (map_after f g xs)

-- a sum over the items is one over their places
by_places : (f : ℕ → ℕ) (xs : List ℕ) → sum_by (λ i. f (get_or xs i 0)) (range_with_len 0 (length xs)) ≡ sum_by f xs
by_places f xs =
    let places = range_with_len 0 (length xs) in
    let listed = fill_by_all (λ i. get_or xs i 0) xs (length xs) 0 refl (λ k l. refl) in
    sym (sum-map (λ i. f (get_or xs i 0)) places) ∙ ap sum (sym (map_after f (λ i. get_or xs i 0) places)) ∙ ap (λ ys. sum (map f ys)) (sym listed) ∙ sum-map f xs

pub shares_add_up : SharesAddUp
shares_add_up values some =
    let places = range_with_len 0 (length values) in
    let rest = remainders values in
    let fits = missing_within values some in
    let ranked = count_ranked (is_before rest) (is_order rest) (range_with_len 0 (length rest)) (missing values) (distinct_range 0 (length rest)) in
    let size : length rest ≡ length values = length-map values (remainder (sum values)) in
    let many = length-range_with_len 0 (length rest) in
    let more : sum_by (λ i. cond (nat_lt (count_before rest i) (missing values)) 1 0) places ≡ missing values =
    ap (λ n. count_by (λ i. nat_lt (count_before rest i) (missing values)) (range_with_len 0 n)) (sym size) ∙ ranked ∙ grind arith in
    sum-map (share_at values) places
    ∙ sum_by_sum (λ i. rounded_down (sum values) (get_or values i 0)) (λ i. cond (nat_lt (count_before rest i) (missing values)) 1 0) places
    ∙ omega (arith, by_places (rounded_down (sum values)) values, fits, more)

-- a step of a loop that subtracts each part
pub part_step : (total : ℕ) (xs : List ℕ) (i left part : ℕ) → i < length xs → left + sum_by (rounded_down total) (take i xs) ≡ WHOLE → part ≡ rounded_down total (get_or xs i 0)
    → sum_by (rounded_down total) xs ≤ WHOLE → (part ≤ left) × (left - part + sum_by (rounded_down total) (take (i + 1) xs) ≡ WHOLE)
part_step total xs i left part l kept is all =
    let more = sum_by_more (rounded_down total) xs i 0 l in
    let within = sum_by_more_le (rounded_down total) xs i 0 l in
    (omega arith, omega arith)

-- a step of a loop that writes a share
pub share_step : (values items : List ℕ) (i y : ℕ) → i < length items → take i items ≡ map (share_at values) (range_with_len 0 i) → y ≡ share_at values i
    → take (i + 1) (set items i y) ≡ map (share_at values) (range_with_len 0 (i + 1))
share_step values items i y l front item =
    take_more_set items i y l ∙ ap (λ (zs : List ℕ). zs ++ y ∷ []) front ∙ ap (λ (z : ℕ). map (share_at values) (range_with_len 0 i) ++ z ∷ []) item
    ∙ sym (map-range_with_len_more (share_at values) 0 i i (omega arith))

-- what is written in the end is a list of shares
pub is_shares : (values items : List ℕ) → 1 ≤ length values → length values ≤ 24 → 1 ≤ sum values → items ≡ shares_of values → IsShares items
is_shares values items some most positive is = subst IsShares (sym is) record {
  some = omega (arith, length-map-range_with_len (share_at values) 0 (length values));
  most = omega (arith, length-map-range_with_len (share_at values) 0 (length values));
  whole = shares_add_up values positive;
}

-- the share at a place, from what was found for it
pub share_is : (values left : List ℕ) (place total part before more bit : ℕ) → total ≡ sum values → left ≡ remainders values
    → part ≡ rounded_down total (get_or values place 0) → before ≡ count_before left place → more ≡ missing values
    → bit ≡ cond (nat_lt before more) 1 0 → part + bit ≡ share_at values place
share_is values left place total part before more bit sum_is left_is part_is before_is more_is bit_is =
    let part_is' : part ≡ rounded_down (sum values) (get_or values place 0) = part_is ∙ ap (λ t. rounded_down t (get_or values place 0)) sum_is in
    let before_is' : before ≡ count_before (remainders values) place = before_is ∙ ap (λ xs. count_before xs place) left_is in
    let bit_is' : bit ≡ cond (nat_lt (count_before (remainders values) place) (missing values)) 1 0 = bit_is ∙ ap₂ (λ (b m : ℕ). cond (nat_lt b m) 1 0) before_is' more_is in
    omega arith
