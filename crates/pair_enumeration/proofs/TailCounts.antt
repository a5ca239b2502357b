-- How many tails there are.
use Rattle.std.proofs.Common.{◌≡◌, ◌⊎◌, inl, inr, ℕ, zero, suc, ◌+◌, ◌-◌, ◌*◌, ◌/◌, ◌^◌, ◌≤◌, ◌<◌, min, List, [], ◌∷◌, length, map, sum_by, cond, eqb, ltb, true, false, Bool, Option, Some, None, refl, ap, ap₂, sym, ◌∙◌, subst, arith, length-append, lt-ltb, le-ltb, eq-eqb, ne_eqb, pow-suc}
use Rattle.std.specs.List.{range_with_len}
use Rattle.std.specs.Option.{option_map_or}
use Rattle.std.proofs.lemmas.List.{length-map}
use Rattle.std.proofs.lemmas.List.Sums.{sum_by_push, sum_by-cons}
use Rattle.std.proofs.lemmas.List.Concat.{length-flat_map}
use Rattle.std.proofs.lemmas.Nat.{pow_pos}
use Rattle.criteria_model.specs.Counts.{level_pairs, classes_of_degree, class_count}
use Rattle.criteria_model.proofs.CountLemmas.{range_with_len-more}
use Rattle.pair_enumeration.specs.declared.walks.Stage.{Stage}
use Rattle.pair_enumeration.specs.declared.walks.Stage.TheVariants.{Same, Left, Both}
use Rattle.pair_enumeration.specs.Walks.{stage_after, Tail, with_levels, option_tails, row_tails, differing_tails, tails, joined, listed_classes}

sum-range-more : (f : ℕ → ℕ) (n : ℕ) → sum_by f (range_with_len 1 (n + 1)) ≡ sum_by f (range_with_len 1 n) + f (n + 1)
sum-range-more f n =
    let e : 1 + n ≡ n + 1 = omega arith in
    ap (sum_by f) (range_with_len-more 1 n) ∙ sum_by_push f (range_with_len 1 n) (1 + n) ∙ ap (λ k. sum_by f (range_with_len 1 n) + f k) e

-- a for each right level below l, b for each above it
abbrev apart : ℕ → ℕ → ℕ → ℕ → ℕ
apart a b l r = cond (ltb r l) a (cond (ltb l r) b 0)

-- three ways in which two numbers stand
compared : (x y : ℕ) → ((x < y) ⊎ (x ≡ y)) ⊎ (y < x)
compared zero zero = inl (inr refl)
compared zero (suc y) = inl (inl (omega arith))
compared (suc x) zero = inr (omega arith)
compared (suc x) (suc y) = elim (compared x y) [ inl h ↦ elim h [ inl a ↦ inl (inl (omega (arith, a))) | inr b ↦ inl (inr (ap suc b)) ] | inr c ↦ inr (omega (arith, c)) ]

row-step : (a b l n x y : ℕ) → sum_by (apart a b l) (range_with_len 1 n) ≡ min n (l - 1) * a + (n - l) * b → apart a b l (n + 1) ≡ x * a + y * b
    → min (n + 1) (l - 1) ≡ min n (l - 1) + x → n + 1 - l ≡ n - l + y → sum_by (apart a b l) (range_with_len 1 (n + 1)) ≡ min (n + 1) (l - 1) * a + (n + 1 - l) * b
row-step a b l n x y h t p q = omega (arith, sum-range-more (apart a b l) n, h, t, ap₂ (λ u v. u * a + v * b) p q)

apart-below : (a b l r : ℕ) → r < l → apart a b l r ≡ a
apart-below a b l r h = ap (λ t. cond t a (cond (ltb l r) b 0)) (lt-ltb r l h)

apart-above : (a b l r : ℕ) → l < r → apart a b l r ≡ b
apart-above a b l r h = ap (λ t. cond t a (cond (ltb l r) b 0)) (le-ltb r l (omega arith)) ∙ ap (λ t. cond t b 0) (lt-ltb l r h)

apart-same : (a b l r : ℕ) → l ≡ r → apart a b l r ≡ 0
apart-same a b l r h = ap (λ t. cond t a (cond (ltb l r) b 0)) (le-ltb r l (omega arith)) ∙ ap (λ t. cond t b 0) (le-ltb l r (omega arith))

row-sum : (a b l n : ℕ) → 1 ≤ l → sum_by (apart a b l) (range_with_len 1 n) ≡ min n (l - 1) * a + (n - l) * b
row-sum a b l zero low =
    let p : min 0 (l - 1) ≡ 0 = omega arith in
    let q : 0 - l ≡ 0 = omega arith in
    omega (arith, ap₂ (λ u v. u * a + v * b) p q)
row-sum a b l (suc n) low =
    let e : suc n ≡ n + 1 = omega arith in
    let h = row-sum a b l n low in
    let P : ℕ → Type 0 = λ k. sum_by (apart a b l) (range_with_len 1 k) ≡ min k (l - 1) * a + (k - l) * b in
    subst P (sym e)
    (elim (compared (n + 1) l) [
      | inl below ↦ elim below [
        | inl c ↦ row-step a b l n 1 0 h (omega (arith, apart-below a b l (n + 1) c)) (omega (arith, c)) (omega (arith, c))
        | inr c ↦ row-step a b l n 0 0 h (omega (arith, apart-same a b l (n + 1) (sym c))) (omega (arith, c)) (omega (arith, c))
      ]
      | inr c ↦ row-step a b l n 0 1 h (omega (arith, apart-above a b l (n + 1) c)) (omega (arith, c)) (omega (arith, c))
    ])

-- ---- all rows
triangle : ℕ → ℕ
triangle zero = 0
triangle (suc m) = triangle m + m

rising : ℕ → ℕ → ℕ
rising n zero = 0
rising n (suc m) = rising n m + (n - suc m)

triangle-twice : (n : ℕ) → 2 * triangle n + n ≡ n * n
unfolding triangle
triangle-twice zero = refl
triangle-twice (suc n) = omega (arith, triangle-twice n)

rising-with : (n m : ℕ) → m ≤ n → rising n m + triangle m + m ≡ m * n
unfolding triangle rising
rising-with n zero h = omega arith
rising-with n (suc m) h = omega (arith, rising-with n m (omega arith))

rising-all : (n : ℕ) → rising n n ≡ triangle n
rising-all n = omega (arith, rising-with n n (omega arith), triangle-twice n)

rows-sum : (a b n m : ℕ) → m ≤ n → sum_by (λ l. min n (l - 1) * a + (n - l) * b) (range_with_len 1 m) ≡ triangle m * a + rising n m * b
unfolding triangle rising
rows-sum a b n zero h = omega arith
rows-sum a b n (suc m) h =
    let e : suc m ≡ m + 1 = omega arith in
    let p : min n (m + 1 - 1) ≡ m = omega arith in
    let q : n - (m + 1) ≡ n - suc m = omega arith in
    ap (λ k. sum_by (λ l. min n (l - 1) * a + (n - l) * b) (range_with_len 1 k)) e
    ∙ omega (arith, sum-range-more (λ l. min n (l - 1) * a + (n - l) * b) m, rows-sum a b n m (omega arith), ap₂ (λ u v. u * a + v * b) p q)

pairs-triangle : (n : ℕ) → n * (n - 1) / 2 ≡ triangle n
unfolding triangle
pairs-triangle zero = refl
pairs-triangle (suc n) =
    let e : suc n - 1 ≡ n = omega arith in
    rw e (omega (arith, triangle-twice (suc n)))

-- sums over a range, term by term
sum-range-same : (f g : ℕ → ℕ) (a n : ℕ) → ((k : ℕ) → a ≤ k → k < a + n → f k ≡ g k) → sum_by f (range_with_len a n) ≡ sum_by g (range_with_len a n)
sum-range-same f g a zero h = refl
sum-range-same f g a (suc n) h =
    omega (
      arith,
      sum_by-cons f a (range_with_len (a + 1) n),
      sum_by-cons g a (range_with_len (a + 1) n),
      h a (omega arith) (omega arith),
      sum-range-same f g (a + 1) n (λ k l m. h k (omega arith) (omega arith)),
    )

-- ---- how many tails begin with a difference
option-length : (rest : Stage → List Tail) (o : Option Stage) (l r : ℕ)
    → length (option_map_or (λ next. with_levels l r (rest next)) o []) ≡ option_map_or (λ next. length (rest next)) o 0
option-length rest None l r = refl
option-length rest (Some next) l r = length-map (rest next) (λ t. (l, r) ∷ t)

-- how many there are for each lower right level, and for each higher one
abbrev below_count : (Stage → ℕ) → Stage → ℕ
below_count count Same = count Left
below_count count Left = count Left
below_count count Both = count Both

abbrev above_count : (Stage → ℕ) → Stage → ℕ
above_count count Same = 0
above_count count Left = count Both
above_count count Both = count Both

same-apart : (x : ℕ) (t u : Bool) (count : Stage → ℕ) → option_map_or count (cond t (Some Left) None) 0 ≡ cond t (count Left) (cond u 0 0)
same-apart x true u count = refl
same-apart x false true count = refl
same-apart x false false count = refl

left-apart : (t u : Bool) (count : Stage → ℕ)
    → option_map_or count (cond t (Some Left) (cond u (Some Both) None)) 0 ≡ cond t (count Left) (cond u (count Both) 0)
left-apart true u count = refl
left-apart false true count = refl
left-apart false false count = refl

both-apart : (l r : ℕ) (count : Stage → ℕ) → option_map_or count (cond (eqb l r) None (Some Both)) 0 ≡ apart (count Both) (count Both) l r
both-apart l r count = elim (compared l r) [
  | inl h ↦ elim h [
    | inl c ↦ ap (λ t. option_map_or count (cond t None (Some Both)) 0) (ne_eqb l r (λ e. omega (arith, c, e))) ∙ sym (apart-above (count Both) (count Both) l r c)
    | inr c ↦ ap (λ t. option_map_or count (cond t None (Some Both)) 0) (eq-eqb l r c) ∙ sym (apart-same (count Both) (count Both) l r c)
  ]
  | inr c ↦ ap (λ t. option_map_or count (cond t None (Some Both)) 0) (ne_eqb l r (λ e. omega (arith, c, e))) ∙ sym (apart-below (count Both) (count Both) l r c)
]

stage-apart : (stage : Stage) (l r : ℕ) (count : Stage → ℕ)
    → option_map_or count (stage_after stage l r) 0 ≡ apart (below_count count stage) (above_count count stage) l r
stage-apart Same l r count = same-apart 0 (ltb r l) (ltb l r) count
stage-apart Left l r count = left-apart (ltb r l) (ltb l r) count
stage-apart Both l r count = both-apart l r count

row-length : (rest : Stage → List Tail) (stage : Stage) (n l : ℕ) → 1 ≤ l
    → length (row_tails rest stage n l) ≡ min n (l - 1) * below_count (λ s. length (rest s)) stage + (n - l) * above_count (λ s. length (rest s)) stage
row-length rest stage n l low =
    length-flat_map (option_tails rest stage l) (range_with_len 1 n)
    ∙ sum-range-same (λ r. length (option_tails rest stage l r)) (apart (below_count (λ s. length (rest s)) stage) (above_count (λ s. length (rest s)) stage) l) 1 n
    (λ r a b. option-length rest (stage_after stage l r) l r ∙ stage-apart stage l r (λ s. length (rest s)))
    ∙ row-sum (below_count (λ s. length (rest s)) stage) (above_count (λ s. length (rest s)) stage) l n low

summed : (t u p a b : ℕ) → p ≡ t → u ≡ t → t * a + u * b ≡ p * (a + b)
summed t u p a b e f = omega (arith, ap (λ x. x * b) f, ap (λ x. x * (a + b)) e)

differing-length : (rest : Stage → List Tail) (stage : Stage) (n : ℕ)
    → length (differing_tails rest stage n) ≡ n * (n - 1) / 2 * (below_count (λ s. length (rest s)) stage + above_count (λ s. length (rest s)) stage)
differing-length rest stage n =
    length-flat_map (row_tails rest stage n) (range_with_len 1 n)
    ∙ sum-range-same (λ l. length (row_tails rest stage n l)) (λ l. min n (l - 1) * below_count (λ s. length (rest s)) stage + (n - l) * above_count (λ s. length (rest s)) stage) 1 n
    (λ l a b. row-length rest stage n l a)
    ∙ rows-sum (below_count (λ s. length (rest s)) stage) (above_count (λ s. length (rest s)) stage) n n (omega arith)
    ∙ summed (triangle n) (rising n n) (n * (n - 1) / 2) (below_count (λ s. length (rest s)) stage) (above_count (λ s. length (rest s)) stage) (pairs-triangle n) (rising-all n)

-- ---- how many tails there are in all
abbrev factor : Stage → ℕ → ℕ
factor Same d = 2 ^ (d - 1) - 1
factor Left d = 2 ^ d - 1
factor Both d = 2 ^ d

-- the sums of the two parts, at each stage
both-step : (p e f d : ℕ) → p * (2 ^ d * e + 2 ^ d * e) + 2 ^ suc d * f ≡ 2 ^ suc d * (p * e + f)
both-step p e f d = omega (arith, pow-suc 2 d, ap (λ x. x * f) (pow-suc 2 d), ap (λ x. x * (p * e + f)) (pow-suc 2 d))

left-step-at : (p e f z q w : ℕ) → q ≡ z + 1 → w ≡ z * 2 + 1 → p * (z * e + q * e) + w * f ≡ w * (p * e + f)
left-step-at p e f z q w a b = omega (arith, ap (λ x. p * (z * e + x * e)) a, ap (λ x. x * f) b, ap (λ x. x * (p * e + f)) b)

left-step : (p e f d : ℕ) → p * ((2 ^ d - 1) * e + 2 ^ d * e) + (2 ^ suc d - 1) * f ≡ (2 ^ suc d - 1) * (p * e + f)
left-step p e f d = left-step-at p e f (2 ^ d - 1) (2 ^ d) (2 ^ suc d - 1) (omega (arith, pow_pos d)) (omega (arith, pow-suc 2 d, pow_pos d))

same-step : (p e f d : ℕ) → p * ((2 ^ d - 1) * e + 0) + (2 ^ (suc d - 1) - 1) * f ≡ (2 ^ (suc d - 1) - 1) * (p * e + f)
same-step p e f d =
    let k : suc d - 1 ≡ d = omega arith in
    let g : 2 ^ (suc d - 1) - 1 ≡ 2 ^ d - 1 = ap (λ k. 2 ^ k - 1) k in
    omega (arith, ap (λ x. x * f) g, ap (λ x. x * (p * e + f)) g)

stage-step : (n : ℕ) (levels : List ℕ) (d : ℕ) (stage : Stage) → ((s : Stage) → length (tails levels d s) ≡ factor s d * level_pairs d levels)
    → n * (n - 1) / 2 * (below_count (λ s. length (tails levels d s)) stage + above_count (λ s. length (tails levels d s)) stage) + factor stage (suc d) * level_pairs (suc d) levels
    ≡ factor stage (suc d) * level_pairs (suc d) (n ∷ levels)
stage-step n levels d Same h =
    ap (λ x. n * (n - 1) / 2 * (x + 0) + (2 ^ (suc d - 1) - 1) * level_pairs (suc d) levels) (h Left)
    ∙ same-step (n * (n - 1) / 2) (level_pairs d levels) (level_pairs (suc d) levels) d
stage-step n levels d Left h =
    ap₂ (λ x y. n * (n - 1) / 2 * (x + y) + (2 ^ suc d - 1) * level_pairs (suc d) levels) (h Left) (h Both)
    ∙ left-step (n * (n - 1) / 2) (level_pairs d levels) (level_pairs (suc d) levels) d
stage-step n levels d Both h =
    ap (λ x. n * (n - 1) / 2 * (x + x) + 2 ^ suc d * level_pairs (suc d) levels) (h Both)
    ∙ both-step (n * (n - 1) / 2) (level_pairs d levels) (level_pairs (suc d) levels) d

pub tails-length : (levels : List ℕ) (d : ℕ) (stage : Stage) → length (tails levels d stage) ≡ factor stage d * level_pairs d levels
tails-length [] zero Same = refl
tails-length [] zero Left = refl
tails-length [] zero Both = refl
tails-length [] (suc d) stage = omega arith
tails-length (n ∷ levels) zero stage = length-map (tails levels 0 stage) (λ t. (0, 0) ∷ t) ∙ tails-length levels 0 stage
tails-length (n ∷ levels) (suc d) stage =
    length-append (differing_tails (λ next. tails levels d next) stage n) (with_levels 0 0 (tails levels (suc d) stage))
    ∙ ap₂ (λ a b. a + b) (differing-length (λ next. tails levels d next) stage n) (length-map (tails levels (suc d) stage) (λ t. (0, 0) ∷ t) ∙ tails-length levels (suc d) stage)
    ∙ stage-step n levels d stage (λ s. tails-length levels d s)

-- the list has as many members as there are classes
pub length-listed : (levels : List ℕ) (limit : ℕ) → length (listed_classes levels limit) ≡ class_count levels limit
unfolding class_count
length-listed levels limit =
    length-flat_map (λ d. map (joined [] []) (tails levels d Same)) (range_with_len 2 (limit - 1))
    ∙ sum-range-same (λ d. length (map (joined [] []) (tails levels d Same))) (classes_of_degree levels) 2 (limit - 1)
    (λ d a b. length-map (tails levels d Same) (joined [] []) ∙ tails-length levels d Same)
