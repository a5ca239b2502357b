-- Which row's variable comes to 0 first, and that a pivot there keeps the others at least 0.
use Rattle.std.proofs.Common.{◌≡◌, ◌≢◌, ◌⊎◌, inl, inr, ℕ, zero, suc, ◌+◌, ◌-◌, ◌*◌, ◌<◌, ◌≤◌, length, ℤ, pos, negsuc, neg_ℤ, ◌-ℤ◌, ◌*ℤ◌, ◌<ℤ◌, ◌≤ℤ◌, unsigned_abs, refl, sym, ap, subst, ◌∙◌, arith}
use Rattle.std.proofs.Math.Nat.{mul-le-mul_right, le_of_mul-le-mul_right}
use Rattle.std.proofs.lemmas.Bool.{cases_lt, cases_order}
use borrow.Author.Differences.{product_is}
use Rattle.std.proofs.lemmas.Int.{ints}
use Rattle.row_laws.specs.Rows.{entry}
use Rattle.row_laws.proofs.Integers.{abs_positive}
use Rattle.fraction_free.specs.Dictionary.{DictionaryView, IsDictionary, line_of, entry_in, constant_in}
use Rattle.fraction_free.specs.Changes.{IsPivoted, with_sign}
use Rattle.simplex.specs.Raise.{ComesToZero, IsNoLater, IsSooner, IsFirstAtZero, IsFeasibleBut}
use Rattle.simplex.specs.Results.{KeepsRows}

-- quotients in order, by their cross products
ordered : (a b c d e f : ℕ) → 0 < d → a * d ≤ c * b → c * f ≤ e * d → a * f ≤ e * b
ordered a b c d e f positive one two =
    let first : a * d * f ≤ c * b * f = mul-le-mul_right f one in
    let second : c * f * b ≤ e * d * b = mul-le-mul_right b two in
    let same : a * f * d ≤ e * b * d = omega (arith, first, second) in
    le_of_mul-le-mul_right same positive

-- a row comes to 0 by an entry that isn't 0
pub comes_by_entry : (d : DictionaryView) (raised column row : ℕ) → pos 0 <ℤ entry_in d raised column → ComesToZero d raised column row → 0 < unsigned_abs (entry_in d row column)
comes_by_entry d raised column row helps (inl same) = subst (λ (r : ℕ). 0 < unsigned_abs (entry_in d r column)) (sym same) (abs_positive (entry_in d raised column) (λ e. omega (arith, ints, helps, e)))
comes_by_entry d raised column row helps (inr falls) = abs_positive (entry_in d row column) (λ e. omega (arith, ints, falls, e))

-- one row more is compared
pub sooner_first : (d : DictionaryView) (raised column first row sooner at : ℕ) → pos 0 <ℤ entry_in d raised column → ComesToZero d raised column (first - 1) → row ≡ at + 1
    → IsSooner d column first row sooner
    → ((other : ℕ) → (other < at) ⊎ (other ≡ raised) → ComesToZero d raised column other → IsNoLater d column (first - 1) other)
    → (other : ℕ) → (other < at + 1) ⊎ (other ≡ raised) → ComesToZero d raised column other → IsNoLater d column (sooner - 1) other
sooner_first d raised column first row sooner at helps comes row_is s before other which other_comes = from which
  where
    through : IsNoLater d column (first - 1) other → IsNoLater d column (sooner - 1) other
    through no_later =
        ordered (unsigned_abs (constant_in d (sooner - 1))) (unsigned_abs (entry_in d (sooner - 1) column)) (unsigned_abs (constant_in d (first - 1))) (unsigned_abs (entry_in d (first - 1) column))
        (unsigned_abs (constant_in d other)) (unsigned_abs (entry_in d other column)) (comes_by_entry d raised column (first - 1) helps comes) s.than_first no_later

    from : (other < at + 1) ⊎ (other ≡ raised) → IsNoLater d column (sooner - 1) other
    from (inr last) = through (before other (inr last) other_comes)
    from (inl lt) = elim (cases_lt other at) [
      | inl below ↦ through (before other (inl below) other_comes)
      | inr above ↦ (let here : row - 1 ≡ other = omega arith in subst (IsNoLater d column (sooner - 1)) here s.than_row)
    ]

-- a row that doesn't fall need not be compared
pub still_first : (d : DictionaryView) (raised column first at : ℕ) → at < raised → (entry_in d at column <ℤ pos 0 → ⊥)
    → ((other : ℕ) → (other < at) ⊎ (other ≡ raised) → ComesToZero d raised column other → IsNoLater d column (first - 1) other)
    → (other : ℕ) → (other < at + 1) ⊎ (other ≡ raised) → ComesToZero d raised column other → IsNoLater d column (first - 1) other
still_first d raised column first at lt rises before other (inr last) comes = before other (inr last) comes
still_first d raised column first at lt rises before other (inl below) comes = here comes
  where
    here : ComesToZero d raised column other → IsNoLater d column (first - 1) other
    here (inl last) = before other (inr last) comes
    here (inr falls) = elim (cases_lt other at) [ inl less ↦ before other (inl less) comes | inr above ↦ (let same : other ≡ at = omega arith in absurd (rises (subst (λ (r : ℕ). entry_in d r column <ℤ pos 0) same falls))) ]

pub sooner_comes : (d : DictionaryView) (raised column first row sooner : ℕ) → ComesToZero d raised column (first - 1) → ComesToZero d raised column (row - 1) → (sooner ≡ first) ⊎ (sooner ≡ row) → ComesToZero d raised column (sooner - 1)
sooner_comes d raised column first row sooner comes also (inl e) = subst (λ (r : ℕ). ComesToZero d raised column (r - 1)) (sym e) comes
sooner_comes d raised column first row sooner comes also (inr e) = subst (λ (r : ℕ). ComesToZero d raised column (r - 1)) (sym e) also

-- ---- a pivot can be undone

-- after a pivot the entry at its place is the old scale, up to its sign
pub pivoted_entry : (old new : DictionaryView) (row column : ℕ) → IsDictionary old → IsPivoted old new row column → entry_in new row column ≢ pos 0
pivoted_entry old new row column is p e = signed (entry_in old row column) old.scale is.positive (sym p.pivot_line.kept ∙ e)
  where
    signed : (x scale : ℤ) → pos 1 ≤ℤ scale → with_sign x scale ≡ pos 0 → ⊥
    signed (pos n) scale low h = omega (arith, ints, low, h)
    signed (negsuc n) scale low h = omega (arith, ints, low, h)

-- ---- a pivot on the first row keeps the others at least 0

nonneg_quotient : (x scale : ℤ) → pos 1 ≤ℤ scale → pos 0 ≤ℤ (x *ℤ scale) → pos 0 ≤ℤ x
nonneg_quotient (pos x) scale low h = omega (arith, ints)
nonneg_quotient (negsuc x) (pos zero) low h = absurd (omega (arith, ints))
nonneg_quotient (negsuc x) (pos (suc s)) low h = absurd (omega (arith, ints, h, product_is (negsuc x) (pos (suc s))))
nonneg_quotient (negsuc x) (negsuc s) low h = absurd (omega (arith, ints))

turned_sign : (e x : ℤ) → e <ℤ pos 0 → with_sign e x ≡ neg_ℤ x
turned_sign (pos n) x h = absurd (omega (arith, ints, h))
turned_sign (negsuc n) x h = refl

-- the difference of products that gives the constant of another row
nonneg_difference : (e c other constant : ℤ) → e <ℤ pos 0 → pos 0 ≤ℤ c → pos 0 ≤ℤ constant → (other <ℤ pos 0 → unsigned_abs c * unsigned_abs other ≤ unsigned_abs constant * unsigned_abs e)
    → pos 0 ≤ℤ neg_ℤ (e *ℤ constant -ℤ other *ℤ c)
nonneg_difference (pos n) c other constant h low also first = absurd (omega (arith, ints, h))
nonneg_difference (negsuc n) (negsuc c) other constant h low also first = absurd (omega (arith, ints, low))
nonneg_difference (negsuc n) (pos c) other (negsuc constant) h low also first = absurd (omega (arith, ints, also))
nonneg_difference (negsuc n) (pos c) (pos m) (pos constant) h low also first = omega (arith, ints, product_is (negsuc n) (pos constant), product_is (pos m) (pos c))
nonneg_difference (negsuc n) (pos c) (negsuc m) (pos constant) h low also first =
    let bound = first (omega (arith, ints)) in omega (arith, ints, bound, product_is (negsuc n) (pos constant), product_is (negsuc m) (pos c))

pub raise_keeps : (old new : DictionaryView) (raised row column : ℕ) → IsDictionary old → column < old.columns → IsPivoted old new row column → IsFirstAtZero old raised column row → row ≢ raised
    → IsFeasibleBut old raised → IsFeasibleBut new raised
raise_keeps old new raised row column is below p first apart feasible other lt not_raised =
    subst (λ (n : ℕ). pos 0 ≤ℤ entry (line_of new other) n) (sym (ap (λ (t : DictionaryView). t.columns) p.rest)) (at (cases_order other row))
  where
    within : other < length old.loaded
    within = omega (arith, lt, ap (λ (t : DictionaryView). length t.loaded) p.rest)

    falls : entry_in old row column <ℤ pos 0
    falls = elim first.comes [ inl same ↦ absurd (apart same) | inr less ↦ less ]

    pivot_constant : pos 0 ≤ℤ constant_in old row
    pivot_constant = feasible row first.within apart

    here : other ≡ row → pos 0 ≤ℤ entry (line_of new other) old.columns
    here same =
        let now = p.pivot_line.negated old.columns (omega (arith, is.line_len row first.within)) (λ e. omega (arith, e, below)) ∙ turned_sign (entry_in old row column) (neg_ℤ (constant_in old row)) falls in
        subst (λ (r : ℕ). pos 0 ≤ℤ entry (line_of new r) old.columns) (sym same) (omega (arith, ints, now, pivot_constant))

    there : other ≢ row → pos 0 ≤ℤ entry (line_of new other) old.columns
    there apart_from =
        let line = p.other_lines other (omega (arith, is.lines_len, within)) apart_from in
        let product = line.divided old.columns (omega (arith, is.line_len other within)) (λ e. omega (arith, e, below))
        ∙ turned_sign (entry_in old row column) (entry_in old row column *ℤ constant_in old other -ℤ entry_in old other column *ℤ constant_in old row) falls in
        nonneg_quotient (entry (line_of new other) old.columns) old.scale is.positive
        (subst (λ (x : ℤ). pos 0 ≤ℤ x) (sym product)
        (nonneg_difference (entry_in old row column) (constant_in old row) (entry_in old other column) (constant_in old other) falls pivot_constant (feasible other within not_raised) (λ less. first.first other within (inr less))))

    at : (other ≡ row) ⊎ ((other < row) ⊎ (row < other)) → pos 0 ≤ℤ entry (line_of new other) old.columns
    at (inl same) = here same
    at (inr (inl less)) = there (λ e. omega (arith, e, less))
    at (inr (inr more)) = there (λ e. omega (arith, e, more))
