-- The laws of minors over rows that are functions of the column: linear in each row, 0 at two equal rows, Cramer's rule, and the identity.
use Rattle.std.proofs.Common.{◌≡◌, ◌≢◌, ◌⊎◌, inl, inr, ℕ, zero, suc, ◌+◌, ◌<◌, ℤ, pos, ◌+ℤ◌, ◌-ℤ◌, ◌*ℤ◌, List, [], ◌∷◌, length, get_or, set, map, refl, sym, ap, subst, ◌∙◌, arith}
use Rattle.std.proofs.lemmas.List.{set-get_or, get_or-set_same, get_or-set_other, length-set}
use Rattle.std.specs.List.{range_with_len, AllByRecursion}
use mathlib.Core.Path.{fun_ext}
use Rattle.minors.specs.Minor.{expansion, minor_at}
use Rattle.row_laws.specs.Rows.{dot}
use Rattle.row_laws.proofs.Integers.{sums, zero-mul, mul-zero, one-mul}
use Rattle.minors.proofs.Expansion.{expansion_linear, expansion_rest_linear, expansion_swap, expansion_twice, expansion_rest_zero}

-- the row that has only zeros
abbrev pub nothing : ℕ → ℤ
nothing column = pos 0

-- ---- linear in each row

pub minor_at_linear : (rows : List (ℕ → ℤ)) (k : ℕ) (x y : ℤ) (a b : ℕ → ℤ) (columns : List ℕ) → k < length rows
    → minor_at (set rows k (λ c. x *ℤ a c +ℤ y *ℤ b c)) columns ≡ x *ℤ minor_at (set rows k a) columns +ℤ y *ℤ minor_at (set rows k b) columns
unfolding minor_at
minor_at_linear [] k x y a b columns h = absurd (omega arith)
minor_at_linear (r ∷ rows) zero x y a b columns h = expansion_linear x y a b (minor_at rows) columns
minor_at_linear (r ∷ rows) (suc k) x y a b columns h =
    ap (λ (rest : List ℕ → ℤ). expansion r rest columns) (fun_ext (λ others. minor_at_linear rows k x y a b others (omega arith)))
    ∙ expansion_rest_linear x y r (minor_at (set rows k a)) (minor_at (set rows k b)) columns

no_products : (p q : ℤ) → pos 0 *ℤ p +ℤ pos 0 *ℤ q ≡ pos 0
no_products p q = omega (arith, sums, zero-mul p, zero-mul q)

minor_at_nothing : (rows : List (ℕ → ℤ)) (k : ℕ) (columns : List ℕ) → k < length rows → minor_at (set rows k nothing) columns ≡ pos 0
minor_at_nothing rows k columns h =
    minor_at_linear rows k (pos 0) (pos 0) nothing nothing columns h
    ∙ no_products (minor_at (set rows k nothing) columns) (minor_at (set rows k nothing) columns)

-- the sum of rows, each times its factor
abbrev pub sum_of_rows : List ℤ → List (ℕ → ℤ) → ℕ → ℤ
sum_of_rows factors rows column = dot factors (map (λ row. row column) rows)

minor_at_sum : (rows : List (ℕ → ℤ)) (k : ℕ) (columns : List ℕ) → k < length rows → (factors : List ℤ) (others : List (ℕ → ℤ))
    → minor_at (set rows k (sum_of_rows factors others)) columns ≡ dot factors (map (λ row. minor_at (set rows k row) columns) others)
minor_at_sum rows k columns h [] others = minor_at_nothing rows k columns h
minor_at_sum rows k columns h (x ∷ factors) [] = minor_at_nothing rows k columns h
minor_at_sum rows k columns h (x ∷ factors) (r ∷ others) =
    let rest : ℕ → ℤ = sum_of_rows factors others in
    ap (λ (row : ℕ → ℤ). minor_at (set rows k row) columns) (fun_ext (λ c. ap (λ (n : ℤ). x *ℤ r c +ℤ n) (sym (one-mul (rest c)))))
    ∙ minor_at_linear rows k x (pos 1) r rest columns h
    ∙ ap (λ (n : ℤ). x *ℤ minor_at (set rows k r) columns +ℤ n) (one-mul (minor_at (set rows k rest) columns) ∙ minor_at_sum rows k columns h factors others)

-- ---- 0 where two rows are equal

only_first : (p q : ℤ) → p +ℤ q ≡ pos 0 → q ≡ pos 0 → p ≡ pos 0
only_first p q h k = omega (arith, sums)

minor_at_head : (a : ℕ → ℤ) (rows : List (ℕ → ℤ)) (j : ℕ) (columns : List ℕ) → j < length rows → get_or rows j nothing ≡ a → minor_at (a ∷ rows) columns ≡ pos 0
unfolding minor_at
minor_at_head a [] j columns h e = absurd (omega arith)
minor_at_head a (b ∷ rows) zero columns h e =
    ap (λ (row : ℕ → ℤ). expansion a (expansion row (minor_at rows)) columns) e ∙ expansion_twice a (minor_at rows) columns
minor_at_head a (b ∷ rows) (suc j) columns h e =
    only_first (expansion a (expansion b (minor_at rows)) columns) (expansion b (expansion a (minor_at rows)) columns)
    (expansion_swap a b (minor_at rows) columns)
    (expansion_rest_zero b (expansion a (minor_at rows)) columns (λ others. minor_at_head a rows j others (omega arith) e))

pub minor_at_equal : (rows : List (ℕ → ℤ)) (i j : ℕ) (columns : List ℕ) → i < j → j < length rows → get_or rows i nothing ≡ get_or rows j nothing → minor_at rows columns ≡ pos 0
unfolding minor_at
minor_at_equal [] i j columns h k e = absurd (omega arith)
minor_at_equal (r ∷ rows) i zero columns h k e = absurd (omega arith)
minor_at_equal (r ∷ rows) zero (suc j) columns h k e = minor_at_head r rows j columns (omega arith) (sym e)
minor_at_equal (r ∷ rows) (suc i) (suc j) columns h k e =
    expansion_rest_zero r (minor_at rows) columns (λ others. minor_at_equal rows i j others (omega arith) (omega arith) e)

apart : (i k : ℕ) → i ≢ k → (i < k) ⊎ (k < i)
apart i k h = grind arith

-- a row that stands at another place too
minor_at_copied : (rows : List (ℕ → ℤ)) (i k : ℕ) (columns : List ℕ) → i < length rows → k < length rows → i ≢ k
    → minor_at (set rows k (get_or rows i nothing)) columns ≡ pos 0
minor_at_copied rows i k columns hi hk ne =
    let row : ℕ → ℤ = get_or rows i nothing in
    let len : length (set rows k row) ≡ length rows = length-set rows k row in
    let same : get_or (set rows k row) k nothing ≡ row = get_or-set_same rows k row nothing hk in
    let other : get_or (set rows k row) i nothing ≡ row = get_or-set_other rows k i row nothing ne in
    elim (apart i k ne) [
      | inl below ↦ minor_at_equal (set rows k row) i k columns below (omega arith) (other ∙ sym same)
      | inr above ↦ minor_at_equal (set rows k row) k i columns above (omega arith) (same ∙ sym other)
    ]

-- ---- Cramer's rule

dot_zero : (g : (ℕ → ℤ) → ℤ) (factors : List ℤ) (rows : List (ℕ → ℤ)) → ((i : ℕ) → i < length rows → g (get_or rows i nothing) ≡ pos 0) → dot factors (map g rows) ≡ pos 0
dot_zero g [] rows h = refl
dot_zero g (x ∷ factors) [] h = refl
dot_zero g (x ∷ factors) (r ∷ rows) h =
    only_second (x *ℤ g r) (dot factors (map g rows)) (ap (λ (n : ℤ). x *ℤ n) (h 0 (omega arith)) ∙ mul-zero x) ∙ dot_zero g factors rows (λ i l. h (suc i) (omega arith))
  where
    only_second : (p q : ℤ) → p ≡ pos 0 → p +ℤ q ≡ q
    only_second p q e = omega (arith, sums)

-- a sum of which only the product at k is not 0
dot_single : (g : (ℕ → ℤ) → ℤ) (v : ℤ) (factors : List ℤ) (rows : List (ℕ → ℤ)) (k : ℕ) → k < length rows
    → ((i : ℕ) → i < length rows → i ≢ k → g (get_or rows i nothing) ≡ pos 0)
    → g (get_or rows k nothing) ≡ v
    → dot factors (map g rows) ≡ get_or factors k (pos 0) *ℤ v
dot_single g v [] rows k h z e = sym (zero-mul v)
dot_single g v (x ∷ factors) [] k h z e = absurd (omega arith)
dot_single g v (x ∷ factors) (r ∷ rows) zero h z e =
    first (x *ℤ g r) (dot factors (map g rows)) (dot_zero g factors rows (λ i l. z (suc i) (omega arith) (omega arith))) ∙ ap (λ (n : ℤ). x *ℤ n) e
  where
    first : (p q : ℤ) → q ≡ pos 0 → p +ℤ q ≡ p
    first p q e = omega (arith, sums)
dot_single g v (x ∷ factors) (r ∷ rows) (suc k) h z e =
    second (x *ℤ g r) (dot factors (map g rows)) (ap (λ (n : ℤ). x *ℤ n) (z 0 (omega arith) (omega arith)) ∙ mul-zero x)
    ∙ dot_single g v factors rows k (omega arith) (λ i l ne. z (suc i) (omega arith) (omega arith)) e
  where
    second : (p q : ℤ) → p ≡ pos 0 → p +ℤ q ≡ q
    second p q e = omega (arith, sums)

pub minor_at_replaced : (factors : List ℤ) (rows : List (ℕ → ℤ)) (k : ℕ) (columns : List ℕ) → k < length rows
    → minor_at (set rows k (sum_of_rows factors rows)) columns ≡ get_or factors k (pos 0) *ℤ minor_at rows columns
minor_at_replaced factors rows k columns h =
    minor_at_sum rows k columns h factors rows
    ∙ dot_single (λ row. minor_at (set rows k row) columns) (minor_at rows columns) factors rows k h
    (λ i l ne. minor_at_copied rows i k columns l h ne)
    (ap (λ (all : List (ℕ → ℤ)). minor_at all columns) (set-get_or rows k nothing))

-- ---- what a minor reads

expansion_within : (P : ℕ → Type 0) (a b : ℕ → ℤ) (f g : List ℕ → ℤ) (columns : List ℕ) → AllByRecursion P columns
    → ((c : ℕ) → P c → a c ≡ b c) → ((others : List ℕ) → AllByRecursion P others → f others ≡ g others)
    → expansion a f columns ≡ expansion b g columns
unfolding expansion
expansion_within P a b f g [] all e same = refl
expansion_within P a b f g (c ∷ columns) all e same =
    ap (λ (n : ℤ). n *ℤ f columns -ℤ expansion a (λ others. f (c ∷ others)) columns) (e c all.0)
    ∙ ap (λ (n : ℤ). b c *ℤ n -ℤ expansion a (λ others. f (c ∷ others)) columns) (same columns all.1)
    ∙ ap (λ (n : ℤ). b c *ℤ g columns -ℤ n) (expansion_within P a b (λ others. f (c ∷ others)) (λ others. g (c ∷ others)) columns all.1 e (λ others each. same (c ∷ others) (all.0, each)))

-- a row may be changed outside of the columns
pub minor_at_within : (P : ℕ → Type 0) (rows : List (ℕ → ℤ)) (k : ℕ) (a b : ℕ → ℤ) (columns : List ℕ) → AllByRecursion P columns
    → ((c : ℕ) → P c → a c ≡ b c) → minor_at (set rows k a) columns ≡ minor_at (set rows k b) columns
unfolding minor_at
minor_at_within P [] k a b columns all e = refl
minor_at_within P (r ∷ rows) zero a b columns all e = expansion_within P a b (minor_at rows) (minor_at rows) columns all e (λ others each. refl)
minor_at_within P (r ∷ rows) (suc k) a b columns all e =
    expansion_within P r r (minor_at (set rows k a)) (minor_at (set rows k b)) columns all (λ c p. refl) (λ others each. minor_at_within P rows k a b others each e)

-- each of n columns from s on
pub all_in_range : (P : ℕ → Type 0) (s n : ℕ) → ((j : ℕ) → j < n → P (s + j)) → AllByRecursion P (range_with_len s n)
all_in_range P s zero h = tt
all_in_range P s (suc n) h =
    let e : s + 0 ≡ s = omega arith in
    (subst P e (h 0 (omega arith)), all_in_range P (s + 1) n (λ j l. let m : s + suc j ≡ s + 1 + j = omega arith in subst P m (h (suc j) (omega arith))))

-- ---- the identity

expansion_row_zero : (a : ℕ → ℤ) (rest : List ℕ → ℤ) (columns : List ℕ) → AllByRecursion (λ c. a c ≡ pos 0) columns → expansion a rest columns ≡ pos 0
unfolding expansion
expansion_row_zero a rest [] all = refl
expansion_row_zero a rest (c ∷ columns) all =
    none (a c) (rest columns) (expansion a (λ others. rest (c ∷ others)) columns) all.0 (expansion_row_zero a (λ others. rest (c ∷ others)) columns all.1)
  where
    none : (p q r : ℤ) → p ≡ pos 0 → r ≡ pos 0 → p *ℤ q -ℤ r ≡ pos 0
    none p q r h k = ap (λ (n : ℤ). n *ℤ q -ℤ r) h ∙ omega (arith, sums, zero-mul q)

pub minor_at_identity : (rows : List (ℕ → ℤ)) (s : ℕ)
    → ((i : ℕ) → i < length rows → get_or rows i nothing (s + i) ≡ pos 1)
    → ((i j : ℕ) → i < length rows → j < length rows → j ≢ i → get_or rows i nothing (s + j) ≡ pos 0)
    → minor_at rows (range_with_len s (length rows)) ≡ pos 1
unfolding minor_at expansion
minor_at_identity [] s one zeros = refl
minor_at_identity (r ∷ rows) s one zeros =
    let e : s + 0 ≡ s = omega arith in
    let first : r s ≡ pos 1 = ap r (sym e) ∙ one 0 (omega arith) in
    let left : AllByRecursion (λ c. r c ≡ pos 0) (range_with_len (s + 1) (length rows)) =
    all_in_range (λ c. r c ≡ pos 0) (s + 1) (length rows) (λ j l. let m : s + 1 + j ≡ s + suc j = omega arith in ap r m ∙ zeros 0 (suc j) (omega arith) (omega arith) (omega arith)) in
    let rec : minor_at rows (range_with_len (s + 1) (length rows)) ≡ pos 1 =
    minor_at_identity rows (s + 1)
    (λ i l. let m : s + 1 + i ≡ s + suc i = omega arith in ap (get_or rows i nothing) m ∙ one (suc i) (omega arith))
    (λ i j l k ne. let m : s + 1 + j ≡ s + suc j = omega arith in ap (get_or rows i nothing) m ∙ zeros (suc i) (suc j) (omega arith) (omega arith) (omega arith)) in
    product (r s) (minor_at rows (range_with_len (s + 1) (length rows))) (expansion r (λ others. minor_at rows (s ∷ others)) (range_with_len (s + 1) (length rows)))
    first rec (expansion_row_zero r (λ others. minor_at rows (s ∷ others)) (range_with_len (s + 1) (length rows)) left)
  where
    product : (p q n : ℤ) → p ≡ pos 1 → q ≡ pos 1 → n ≡ pos 0 → p *ℤ q -ℤ n ≡ pos 1
    product p q n h k l = ap (λ (x : ℤ). x *ℤ q -ℤ n) h ∙ omega (arith, sums, one-mul q)
