-- How large the counts of classes can be.
use Rattle.std.proofs.Common.{◌≡◌, ℕ, zero, suc, ◌+◌, ◌-◌, ◌*◌, ◌/◌, ◌^◌, ◌≤◌, ◌<◌, List, [], ◌∷◌, length, drop, get_or, sum_by, refl, ap, sym, ◌∙◌, arith, pow-add, pow-suc, mul-le-mul, mul-le-mul_left, mul-le-mul_right, div-mul-le_self, le_trans, pow_mono, mod-eq_of_lt, one-mul, ◌%◌, map-id, ◌++◌, ap₂, drop-cons}
use Rattle.std.proofs.lemmas.Nat.{pow_pos}
use Rattle.std.proofs.Math.Pow.{pow-lt}
use Rattle.std.specs.List.{range_with_len}
use Rattle.std.proofs.lemmas.List.Sums.{sum_by-take-drop, sum_by_push}
use Rattle.std.proofs.lemmas.List.FromFn.{map-range_with_len_more}
use Rattle.criteria_model.specs.Worth.{increments}
use Rattle.criteria_model.specs.Counts.{level_pairs, classes_of_degree}
use Rattle.criteria_model.proofs.LevelLemmas.{increments-cons}

doubled_le_pow : (k : ℕ) → 2 * suc k ≤ 2 ^ suc k
doubled_le_pow zero = omega arith
doubled_le_pow (suc k) = omega (arith, doubled_le_pow k, pow-suc 2 (suc k))

square_le_pow : (k : ℕ) → suc k * k + 2 ≤ 2 ^ suc k
square_le_pow zero = omega arith
square_le_pow (suc k) = omega (arith, square_le_pow k, doubled_le_pow k, pow-suc 2 (suc k))

-- the pairs of two of n levels, and one more, are at most 2 to the number of increments
pub pairs_le_pow : (n : ℕ) → n * (n - 1) / 2 + 1 ≤ 2 ^ (n - 1)
pairs_le_pow zero = omega arith
pairs_le_pow (suc k) =
    let e : suc k - 1 ≡ k = omega arith in
    rw e (omega (arith, square_le_pow k, pow-suc 2 k, div-mul-le_self (suc k * k) 2))

pub level_pairs_le_pow : (d : ℕ) (levels : List ℕ) → level_pairs d levels ≤ 2 ^ increments levels
level_pairs_le_pow zero levels = pow_pos (increments levels)
level_pairs_le_pow (suc d) [] = omega arith
level_pairs_le_pow (suc d) (n ∷ levels) =
    rw (increments-cons n levels, pow-add 2 (n - 1) (increments levels))
    (omega (arith, mul-le-mul (pairs_le_pow n) (level_pairs_le_pow d levels), mul-le-mul_left (n * (n - 1) / 2) (level_pairs_le_pow d levels), mul-le-mul_right (2 ^ increments levels) (pairs_le_pow n), level_pairs_le_pow (suc d) levels))

-- a part of the criteria, from any place on, counts little where all criteria do
pub level_pairs-drop-small : (d left : ℕ) (counts : List ℕ) → increments counts ≤ 24 → level_pairs d (drop left counts) ≤ 2 ^ 24
level_pairs-drop-small d left counts few =
    let part : increments (drop left counts) ≤ 24 = omega (arith, sum_by-take-drop (λ n. n - 1) counts left) in
    le_trans (level_pairs_le_pow d (drop left counts)) (pow_mono part)

-- one criterion more: the table after it, from the table before it
pub table_more : (old new : List ℕ) (n : ℕ) (rest : List ℕ) → ((d : ℕ) → d < 25 → get_or old d 0 ≡ level_pairs d rest)
    → get_or new 0 0 ≡ get_or old 0 0
    → ((d : ℕ) → 1 ≤ d → d < 25 → get_or new d 0 ≡ get_or old d 0 + n * (n - 1) / 2 * get_or old (d - 1) 0)
    → (d : ℕ) → d < 25 → get_or new d 0 ≡ level_pairs d (n ∷ rest)
table_more old new n rest was none some zero l = none ∙ was 0 l
table_more old new n rest was none some (suc d) l =
    let e : suc d - 1 ≡ d = omega arith in
    let f = some (suc d) (omega arith) l in
    let g = rw e at f in
    omega (arith, g, was (suc d) l, ap (λ x. n * (n - 1) / 2 * x) (was d (omega arith)))

-- a power of 2 as a shift computes it
pub shifted_one : (k : ℕ) → k < 64 → 1 * 2 ^ k % 2 ^ 64 ≡ 2 ^ k
shifted_one k l = let p : 1 * 2 ^ k < 2 ^ 64 = omega (arith, pow-lt l) in mod-eq_of_lt p ∙ one-mul (2 ^ k)

-- the classes of one degree are below 2^48
pub classes_of_degree_small : (counts : List ℕ) (d : ℕ) → increments counts ≤ 24 → d ≤ 24 → (2 ^ (d - 1) - 1) * level_pairs d counts < 2 ^ 48
classes_of_degree_small counts d few l =
    let k : d - 1 ≤ 23 = omega arith in
    let a : 2 ^ (d - 1) ≤ 2 ^ 23 = pow_mono k in
    let b : level_pairs d counts ≤ 2 ^ 24 = le_trans (level_pairs_le_pow d counts) (pow_mono few) in
    let c : 2 ^ (d - 1) - 1 ≤ 2 ^ 23 = omega arith in
    omega (arith, mul-le-mul c b)

pub range_with_len-more : (a n : ℕ) → range_with_len a (n + 1) ≡ range_with_len a n ++ (a + n) ∷ []
range_with_len-more a n = sym (map-id _) ∙ map-range_with_len_more (λ x. x) a n (a + n) refl ∙ ap (λ r. r ++ (a + n) ∷ []) (map-id _)

pub count-more : (counts : List ℕ) (degree : ℕ) → 2 ≤ degree
    → sum_by (classes_of_degree counts) (range_with_len 2 (degree + 1 - 2)) ≡ sum_by (classes_of_degree counts) (range_with_len 2 (degree - 2)) + classes_of_degree counts degree
count-more counts degree l =
    let e : degree + 1 - 2 ≡ degree - 2 + 1 = omega arith in
    let f : 2 + (degree - 2) ≡ degree = omega arith in
    ap (λ n. sum_by (classes_of_degree counts) (range_with_len 2 n)) e
    ∙ ap (sum_by (classes_of_degree counts)) (range_with_len-more 2 (degree - 2))
    ∙ sum_by_push (classes_of_degree counts) (range_with_len 2 (degree - 2)) (2 + (degree - 2))
    ∙ ap (λ d. sum_by (classes_of_degree counts) (range_with_len 2 (degree - 2)) + classes_of_degree counts d) f

pub drop-back : (xs : List ℕ) (left : ℕ) → 0 < left → left ≤ length xs → drop (left - 1) xs ≡ get_or xs (left - 1) 0 ∷ drop left xs
drop-back xs zero h l = absurd (omega arith)
drop-back xs (suc left) h l =
    let e : suc left - 1 ≡ left = omega arith in
    rw e (drop-cons xs left 0 (omega arith))

-- a term of the count, as the code computes it
pub term_is : (counts : List ℕ) (d power pairs : ℕ) → power ≡ 2 ^ (d - 1) → pairs ≡ level_pairs d counts
    → (power - 1) * pairs ≡ classes_of_degree counts d
term_is counts d power pairs e f = ap₂ (λ x y. (x - 1) * y) e f
