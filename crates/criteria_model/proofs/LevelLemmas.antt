-- Increments and the rows of alternatives.
use Rattle.std.proofs.Common.{◌⊎◌, inl, inr, ◌≤ℤ◌, ◌≡◌, ℕ, zero, suc, ◌+◌, ◌-◌, ◌≤◌, ◌<◌, max, List, [], ◌∷◌, ◌++◌, length, map, take, replicate, get_or, All, ℤ, pos, ◌-ℤ◌, refl, ap, ap₂, sym, ◌∙◌, arith, length-append, append_assoc, append-nil, length-take, cond, nat_lt, unsigned_abs, true, false}
use Rattle.std.specs.List.{range_with_len}
use Rattle.std.proofs.lemmas.List.{take_more, take-replicate, replicate-append-replicate}
use Rattle.std.proofs.lemmas.Int.{ints}
use Rattle.std.proofs.lemmas.List.Sums.{sum_by_more_le, sum_by-cons}
use Rattle.std.proofs.lemmas.List.FromFn.{length-map-range_with_len, map-range_with_len_more}
use Rattle.std.proofs.lemmas.Bool.Decides.{nat_tests}
use Rattle.std.proofs.lemmas.List.Elements.{All-append}
use Rattle.row_laws.specs.Rows.{minus}
use Rattle.criteria_model.specs.Lists.{IsTuple, IsRow}
use Rattle.criteria_model.specs.Alternatives.{filled}
use Rattle.criteria_model.specs.Worth.{increments, lies_above, has_on, has}
use Rattle.row_laws.proofs.RowLemmas.{length-minus, minus-append, minus-self, minus-zeros}

pub increments-cons : (n : ℕ) (levels : List ℕ) → increments (n ∷ levels) ≡ (n - 1) + increments levels
increments-cons n levels = sum_by-cons (λ n. n - 1) n levels

pub length-has_on : (n level : ℕ) → length (has_on n level) ≡ n - 1
length-has_on n level = length-map-range_with_len (lies_above level) 1 (n - 1)

pub length-has : (levels alternative : List ℕ) → length alternative ≡ length levels → length (has levels alternative) ≡ increments levels
length-has [] alternative e = refl
length-has (n ∷ levels) [] e = absurd (omega arith)
length-has (n ∷ levels) (level ∷ alternative) e =
    omega (arith, length-append (has_on n level) (has levels alternative), length-has_on n level, length-has levels alternative (omega arith), increments-cons n levels)

pub has-append : (levels more alternative rest : List ℕ) → length alternative ≡ length levels
    → has (levels ++ more) (alternative ++ rest) ≡ has levels alternative ++ has more rest
has-append [] more [] rest e = refl
has-append [] more (x ∷ alternative) rest e = absurd (omega arith)
has-append (n ∷ levels) more [] rest e = absurd (omega arith)
has-append (n ∷ levels) more (level ∷ alternative) rest e = ap (λ r. has_on n level ++ r) (has-append levels more alternative rest (omega arith)) ∙ sym (append_assoc (has_on n level) (has levels alternative) (has more rest))

-- a criterion of at least 2 levels has an increment
pub length-le-increments : (levels : List ℕ) → All (λ n. 2 ≤ n) levels → length levels ≤ increments levels
length-le-increments [] h = omega arith
length-le-increments (n ∷ levels) h =
    omega (arith, increments-cons n levels, h 0 0 (omega arith), length-le-increments levels (λ k d l. h (suc k) d (omega arith)))

-- the level counts of a model with few increments fit into a tuple
pub few_increments_fit : (levels : List ℕ) → 1 ≤ length levels → All (λ n. 2 ≤ n) levels → increments levels ≤ 24 → IsTuple levels
few_increments_fit levels some two few = record {
  some = some;
  most = omega (arith, length-le-increments levels two);
  within = λ k d l. omega (arith, sum_by_more_le (λ n. n - 1) levels k d l);
}

-- ---- the steps of the loops that write the differences of two rows
pub has_on-by : (m n level : ℕ) → m - 1 ≡ n - 1 → has_on m level ≡ has_on n level
has_on-by m n level e = ap (λ k. map (lies_above level) (range_with_len 1 k)) e

pub has_on-more : (n level : ℕ) → has_on (n + 1 + 1) level ≡ has_on (n + 1) level ++ lies_above level (n + 1) ∷ []
has_on-more n level =
    let e : n + 1 + 1 - 1 ≡ n + 1 = omega arith in
    let f : n + 1 - 1 ≡ n = omega arith in
    rw (e, f) (map-range_with_len_more (lies_above level) 1 n (n + 1) (omega arith))

pub minus-has_on-more : (n high low : ℕ)
    → minus (has_on (n + 1 + 1) high) (has_on (n + 1 + 1) low) ≡ minus (has_on (n + 1) high) (has_on (n + 1) low) ++ (lies_above high (n + 1) -ℤ lies_above low (n + 1)) ∷ []
minus-has_on-more n high low =
    rw (has_on-more n high, has_on-more n low)
    (minus-append (has_on (n + 1) high) (lies_above high (n + 1) ∷ []) (has_on (n + 1) low) (lies_above low (n + 1) ∷ []) (omega (arith, length-has_on (n + 1) high, length-has_on (n + 1) low)))

has-one : (n level : ℕ) → has (n ∷ []) (level ∷ []) ≡ has_on n level
has-one n level = append-nil (has_on n level)

pub has-take_more : (counts alternative : List ℕ) (i : ℕ) → i < length counts → length alternative ≡ length counts
    → has (take (i + 1) counts) (take (i + 1) alternative) ≡ has (take i counts) (take i alternative) ++ has_on (get_or counts i 0) (get_or alternative i 0)
has-take_more counts alternative i l e =
    rw (take_more counts i 0 l, take_more alternative i 0 (omega arith))
    (has-append (take i counts) (get_or counts i 0 ∷ []) (take i alternative) (get_or alternative i 0 ∷ []) (simp length-take (omega arith))
    ∙ ap (λ r. has (take i counts) (take i alternative) ++ r) (has-one (get_or counts i 0) (get_or alternative i 0)))

pub minus-has-take_more : (counts high low : List ℕ) (i : ℕ) → i < length counts → length high ≡ length counts → length low ≡ length counts
    → minus (has (take (i + 1) counts) (take (i + 1) high)) (has (take (i + 1) counts) (take (i + 1) low))
    ≡ minus (has (take i counts) (take i high)) (has (take i counts) (take i low)) ++ minus (has_on (get_or counts i 0) (get_or high i 0)) (has_on (get_or counts i 0) (get_or low i 0))
minus-has-take_more counts high low i l e f =
    let same : length (take i high) ≡ length (take i counts) = simp length-take (omega arith) in
    let same' : length (take i low) ≡ length (take i counts) = simp length-take (omega arith) in
    rw (has-take_more counts high i l e, has-take_more counts low i l f)
    (minus-append (has (take i counts) (take i high)) _ (has (take i counts) (take i low)) _ (omega (arith, length-has (take i counts) (take i high) same, length-has (take i counts) (take i low) same')))

-- ---- the differences are -1, 0 or 1
pub record IsBit (x : ℤ) : Type 0 where
  pub low : pos 0 ≤ℤ x
  pub high : x ≤ℤ pos 1

bits-append : (xs ys : List ℤ) → All IsBit xs → All IsBit ys → All IsBit (xs ++ ys)
bits-append xs ys h k = All-append IsBit xs ys h k

bits-lies_above : (level i : ℕ) → IsBit (lies_above level i)
bits-lies_above level i = elim (nat_lt i level) as (λ b. IsBit (cond b (pos 1) (pos 0))) [
  | true ↦ record { low = omega (arith, ints); high = omega (arith, ints) }
  | false ↦ record { low = omega (arith, ints); high = omega (arith, ints) }
]

bits-has_on : (level a n : ℕ) → All IsBit (map (lies_above level) (range_with_len a n))
bits-has_on level a zero k d l = absurd (omega arith)
bits-has_on level a (suc n) zero d l = bits-lies_above level a
bits-has_on level a (suc n) (suc k) d l = bits-has_on level (a + 1) n k d (omega arith)

pub bits-has : (levels alternative : List ℕ) → All IsBit (has levels alternative)
bits-has [] alternative = λ k d l. absurd (omega arith)
bits-has (n ∷ levels) [] = λ k d l. absurd (omega arith)
bits-has (n ∷ levels) (level ∷ alternative) = bits-append (has_on n level) (has levels alternative) (bits-has_on level 1 (n - 1)) (bits-has levels alternative)

minus-bits : (a b : List ℤ) → length a ≡ length b → All IsBit a → All IsBit b → All (λ x. unsigned_abs x ≤ 1) (minus a b)
minus-bits [] [] e h g k d l = absurd (omega arith)
minus-bits [] (y ∷ b) e h g k d l = absurd (omega arith)
minus-bits (x ∷ a) [] e h g k d l = absurd (omega arith)
minus-bits (x ∷ a) (y ∷ b) e h g zero d l =
    let p = h 0 d (omega arith) in
    let q = g 0 d (omega arith) in
    omega (arith, ints, p.low, p.high, q.low, q.high)
minus-bits (x ∷ a) (y ∷ b) e h g (suc k) d l = minus-bits a b (omega arith) (λ j c m. h (suc j) c (omega arith)) (λ j c m. g (suc j) c (omega arith)) k d (omega arith)

pub length-minus-has : (levels high low : List ℕ) → length high ≡ length levels → length low ≡ length levels
    → length (minus (has levels high) (has levels low)) ≡ increments levels
length-minus-has levels high low e f = omega (arith, length-minus (has levels high) (has levels low), length-has levels high e, length-has levels low f)

pub minus-has-fits : (levels high low : List ℕ) → 1 ≤ length levels → All (λ n. 2 ≤ n) levels → increments levels ≤ 24 → length high ≡ length levels
    → length low ≡ length levels → IsRow (minus (has levels high) (has levels low))
minus-has-fits levels high low some two few e f = record {
  some = omega (arith, length-minus-has levels high low e f, length-le-increments levels two);
  most = omega (arith, length-minus-has levels high low e f);
  within = minus-bits (has levels high) (has levels low) (omega (arith, length-has levels high e, length-has levels low f)) (bits-has levels high) (bits-has levels low);
}

-- ---- cancelled places and replicas
range-same : (f g : ℕ → ℤ) (a n : ℕ) → ((i : ℕ) → a ≤ i → f i ≡ g i) → map f (range_with_len a n) ≡ map g (range_with_len a n)
range-same f g a zero h = refl
range-same f g a (suc n) h = ap₂ (λ x xs. x ∷ xs) (h a (omega arith)) (range-same f g (a + 1) n (λ i l. h i (omega arith)))

lies_above-filled : (level i : ℕ) → 1 ≤ i → lies_above (max 1 level) i ≡ lies_above level i
lies_above-filled level i l = grind (arith, nat_tests)

pub has-filled : (levels alternative : List ℕ) → has levels (filled alternative) ≡ has levels alternative
has-filled [] alternative = refl
has-filled (n ∷ levels) [] = refl
has-filled (n ∷ levels) (level ∷ alternative) =
    ap₂ (λ a b. a ++ b) (range-same (lies_above (max 1 level)) (lies_above level) 1 (n - 1) (lies_above-filled level)) (has-filled levels alternative)

minus-has_on-same : (n x y : ℕ) → minus (has_on n x) (has_on n x) ≡ minus (has_on n y) (has_on n y)
minus-has_on-same n x y =
    minus-self (has_on n x) ∙ ap (λ k. replicate k (pos 0)) (length-has_on n x ∙ sym (length-has_on n y)) ∙ sym (minus-self (has_on n y))

-- at one criterion: both agree, or both have the same two levels
abbrev pub MatchesAt : ℕ → ℕ → ℕ → ℕ → Type 0
MatchesAt a b c d = ((a ≡ b) × (c ≡ d)) ⊎ ((a ≡ c) × (b ≡ d))

minus-has_on-matches : (n a b c d : ℕ) → MatchesAt a b c d → minus (has_on n a) (has_on n b) ≡ minus (has_on n c) (has_on n d)
minus-has_on-matches n a b c d (inl agree) =
    ap (λ x. minus (has_on n a) (has_on n x)) (sym agree.0) ∙ minus-has_on-same n a c ∙ ap (λ x. minus (has_on n c) (has_on n x)) agree.1
minus-has_on-matches n a b c d (inr same) = ap₂ (λ x y. minus (has_on n x) (has_on n y)) same.0 same.1

-- four lists of levels, of which the first two match the last two at each criterion
pub record AreMatched (levels a b c d : List ℕ) : Type 0 where
  pub first : length a ≡ length levels
  pub second : length b ≡ length levels
  pub third : length c ≡ length levels
  pub fourth : length d ≡ length levels
  pub places : (k : ℕ) → k < length levels → MatchesAt (get_or a k 0) (get_or b k 0) (get_or c k 0) (get_or d k 0)

pub minus-has-matched : (levels a b c d : List ℕ) → AreMatched levels a b c d
    → minus (has levels a) (has levels b) ≡ minus (has levels c) (has levels d)
minus-has-matched [] a b c d m = refl
minus-has-matched (n ∷ levels) [] b c d m = absurd (omega (arith, m.first))
minus-has-matched (n ∷ levels) (x ∷ a) [] c d m = absurd (omega (arith, m.second))
minus-has-matched (n ∷ levels) (x ∷ a) (y ∷ b) [] d m = absurd (omega (arith, m.third))
minus-has-matched (n ∷ levels) (x ∷ a) (y ∷ b) (z ∷ c) [] m = absurd (omega (arith, m.fourth))
minus-has-matched (n ∷ levels) (x ∷ a) (y ∷ b) (z ∷ c) (u ∷ d) m =
    let rest : AreMatched levels a b c d = record { first = omega (arith, m.first); second = omega (arith, m.second); third = omega (arith, m.third); fourth = omega (arith, m.fourth); places = λ k l. m.places (suc k) (omega arith) } in
    minus-append (has_on n x) (has levels a) (has_on n y) (has levels b) (omega (arith, length-has_on n x, length-has_on n y))
    ∙ ap₂ (λ r s. r ++ s) (minus-has_on-matches n x y z u (m.places 0 (omega arith))) (minus-has-matched levels a b c d rest)
    ∙ sym (minus-append (has_on n z) (has levels c) (has_on n u) (has levels d) (omega (arith, length-has_on n z, length-has_on n u)))

-- ---- the lowest levels have no increment
lies_above-zero : (i : ℕ) → lies_above 0 i ≡ pos 0
lies_above-zero i = grind (arith, nat_tests)

has_on-zero : (a n : ℕ) → map (lies_above 0) (range_with_len a n) ≡ replicate n (pos 0)
has_on-zero a zero = refl
has_on-zero a (suc n) = ap₂ (λ x xs. x ∷ xs) (lies_above-zero a) (has_on-zero (a + 1) n)

has-zeros : (levels : List ℕ) → has levels (replicate (length levels) 0) ≡ replicate (increments levels) (pos 0)
has-zeros [] = refl
has-zeros (n ∷ levels) =
    ap₂ (λ a b. a ++ b) (has_on-zero 1 (n - 1)) (has-zeros levels)
    ∙ replicate-append-replicate (n - 1) (increments levels) (pos 0)
    ∙ ap (λ k. replicate k (pos 0)) (sym (increments-cons n levels))

pub minus-has-zeros : (levels alternative : List ℕ) → length alternative ≡ length levels
    → minus (has levels alternative) (has levels (replicate (length levels) 0)) ≡ has levels alternative
minus-has-zeros levels alternative e =
    rw (has-zeros levels, ← length-has levels alternative e) (minus-zeros (has levels alternative))

-- the difference to the lowest levels is the alternative's own row
pub minus-has-lowest : (levels alternative lowest : List ℕ) (n : ℕ) → length alternative ≡ length levels → n ≡ length alternative → n ≤ 24
    → lowest ≡ take n (replicate 24 0) → minus (has levels alternative) (has levels lowest) ≡ has levels alternative
minus-has-lowest levels alternative lowest n e f l g =
    ap (λ a. minus (has levels alternative) (has levels a)) (g ∙ take-replicate n 24 0 l ∙ ap (λ k. replicate k 0) (f ∙ e))
    ∙ minus-has-zeros levels alternative e
