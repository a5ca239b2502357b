-- What the weights of a clash sum to, by a vector and in each increment.
use Rattle.std.proofs.Common.{◌≡◌, ℕ, suc, ◌-◌, ◌<◌, ◌≤◌, List, [], ◌∷◌, ◌++◌, length, get_or, ◌⊎◌, inl, inr, ℤ, pos, ◌+ℤ◌, ◌*ℤ◌, ◌<ℤ◌, ◌≤ℤ◌, refl, sym, ap, subst, ◌∙◌, arith}
use Rattle.std.specs.Prelude.{All, Any}
use Rattle.std.proofs.lemmas.Int.{ints}
use Rattle.std.proofs.lemmas.List.{get_or_append_left}
use Rattle.std.proofs.lemmas.List.Elements.{All-head, All-tail}
use Rattle.row_laws.proofs.Integers.{sums, mul-zero}
use Rattle.row_laws.specs.Rows.{dot, plus, times}
use Rattle.row_laws.proofs.Signs.{mul_nonneg, mul_positive}
use Rattle.row_laws.proofs.RowLemmas.{dot_comm, dot-plus, dot-times, entry-plus, entry-times}
use Rattle.fraction_free.specs.declared.loaded.LoadedRow.{LoadedRow}
use Rattle.fraction_free.specs.Dictionary.{loaded_at, no_row}
use Rattle.simplex.specs.declared.row_weights.RowWeight.{RowWeight}
use Rattle.simplex.specs.declared.found.Clash.{Clash}
use Rattle.simplex.specs.Weights.{IsRowWeight, weighted}
use Rattle.simplex.specs.Rows.{MeetsRows}
use Rattle.simplex.specs.Results.{coefficient, IsStrictRow, IsClash}
use Rattle.simplex.proofs.ClashParts.{weighted_nonneg}
use Rattle.row_laws.proofs.ListLemmas.{Any-cases}

-- ---- sums place by place

-- for each increment, its own weight and the sum, over the weighted rows, of weight times coefficient
abbrev row_total : List LoadedRow → List ℤ → List RowWeight → List ℤ
row_total loaded own [] = own
row_total loaded own (x ∷ rows) = row_total loaded (plus own (times x.weight (loaded_at loaded (x.row - 1)).coefficients)) rows

add_zero : (a : ℤ) → a ≡ a +ℤ pos 0
add_zero a = omega (arith, sums)

regroup : (a b c : ℤ) → (a +ℤ b) +ℤ c ≡ a +ℤ (b +ℤ c)
regroup a b c = omega (arith, sums)

dot_total : (loaded : List LoadedRow) (p own : List ℤ) (rows : List RowWeight) → dot p (row_total loaded own rows) ≡ dot p own +ℤ weighted (λ r. dot p (loaded_at loaded (r - 1)).coefficients) rows
dot_total loaded p own [] = add_zero (dot p own)
dot_total loaded p own (x ∷ rows) =
    dot_total loaded p (plus own (times x.weight (loaded_at loaded (x.row - 1)).coefficients)) rows
    ∙ ap (λ (s : ℤ). s +ℤ weighted (λ r. dot p (loaded_at loaded (r - 1)).coefficients) rows)
    (dot-plus p own (times x.weight (loaded_at loaded (x.row - 1)).coefficients) ∙ ap (λ (s : ℤ). dot p own +ℤ s) (dot-times x.weight p (loaded_at loaded (x.row - 1)).coefficients))
    ∙ regroup (dot p own) (x.weight *ℤ dot p (loaded_at loaded (x.row - 1)).coefficients) (weighted (λ r. dot p (loaded_at loaded (r - 1)).coefficients) rows)

total_at : (loaded : List LoadedRow) (own : List ℤ) (rows : List RowWeight) (j : ℕ) → get_or (row_total loaded own rows) j (pos 0) ≡ get_or own j (pos 0) +ℤ weighted (coefficient loaded j) rows
total_at loaded own [] j = add_zero (get_or own j (pos 0))
total_at loaded own (x ∷ rows) j =
    total_at loaded (plus own (times x.weight (loaded_at loaded (x.row - 1)).coefficients)) rows j
    ∙ ap (λ (s : ℤ). s +ℤ weighted (coefficient loaded j) rows)
    (entry-plus own (times x.weight (loaded_at loaded (x.row - 1)).coefficients) j ∙ ap (λ (s : ℤ). get_or own j (pos 0) +ℤ s) (entry-times x.weight (loaded_at loaded (x.row - 1)).coefficients j))
    ∙ regroup (get_or own j (pos 0)) (x.weight *ℤ coefficient loaded j x.row) (weighted (coefficient loaded j) rows)

dot_zeros : (p xs : List ℤ) → ((j : ℕ) → j < length p → get_or xs j (pos 0) ≡ pos 0) → dot p xs ≡ pos 0
dot_zeros [] xs h = refl
dot_zeros (x ∷ p) [] h = refl
dot_zeros (x ∷ p) (y ∷ xs) h =
    ap (λ (n : ℤ). x *ℤ n +ℤ dot p xs) (h 0 (omega arith)) ∙ ap (λ (n : ℤ). n +ℤ dot p xs) (mul-zero x) ∙ ap (λ (n : ℤ). pos 0 +ℤ n) (dot_zeros p xs (λ j lt. h (suc j) (omega arith)))

-- by any vector the weights of a clash sum to 0
pub clash_value : (columns : ℕ) (loaded : List LoadedRow) (clash : Clash) (p : List ℤ) → IsClash columns loaded clash → length p ≡ columns
    → dot p clash.increments +ℤ weighted (λ r. dot p (loaded_at loaded (r - 1)).coefficients) clash.rows ≡ pos 0
clash_value columns loaded clash p is len =
    sym (dot_total loaded p clash.increments clash.rows)
    ∙ dot_zeros p (row_total loaded clash.increments clash.rows) (λ j lt. total_at loaded clash.increments clash.rows j ∙ is.sums j (omega (arith, len)))

-- ---- signs

weak : (a : ℤ) → pos 1 ≤ℤ a → pos 0 ≤ℤ a
weak a h = omega (arith, ints)

add_nonneg : (a b : ℤ) → pos 0 ≤ℤ a → pos 0 ≤ℤ b → pos 0 ≤ℤ (a +ℤ b)
add_nonneg a b h k = omega (arith, ints)

add_positive : (a b : ℤ) → pos 1 ≤ℤ a → pos 0 ≤ℤ b → pos 1 ≤ℤ (a +ℤ b)
add_positive a b h k = omega (arith, ints)

positive_add : (a b : ℤ) → pos 0 ≤ℤ a → pos 1 ≤ℤ b → pos 1 ≤ℤ (a +ℤ b)
positive_add a b h k = omega (arith, ints)

at_least_one : (a : ℤ) → pos 0 <ℤ a → pos 1 ≤ℤ a
at_least_one a h = omega (arith, ints)

own_nonneg : (p own : List ℤ) → All (λ x. pos 1 ≤ℤ x) p → All (λ x. pos 0 ≤ℤ x) own → pos 0 ≤ℤ dot p own
own_nonneg [] own values weights = omega (arith, ints)
own_nonneg (x ∷ p) [] values weights = omega (arith, ints)
own_nonneg (x ∷ p) (w ∷ own) values weights =
    add_nonneg (x *ℤ w) (dot p own)
    (mul_nonneg x w (weak x (All-head (λ y. pos 1 ≤ℤ y) x p values)) (All-head (λ y. pos 0 ≤ℤ y) w own weights))
    (own_nonneg p own (All-tail (λ y. pos 1 ≤ℤ y) x p values) (All-tail (λ y. pos 0 ≤ℤ y) w own weights))

own_positive : (p own : List ℤ) → length p ≡ length own → All (λ x. pos 1 ≤ℤ x) p → All (λ x. pos 0 ≤ℤ x) own → Any (λ x. pos 0 <ℤ x) own → pos 1 ≤ℤ dot p own
own_positive p [] len values weights (k, w, within, at, strict) = absurd (omega (arith, within))
own_positive [] (w ∷ own) len values weights strict = absurd (omega arith)
own_positive (x ∷ p) (w ∷ own) len values weights strict =
    from (λ later. own_positive p own (omega arith) (All-tail (λ y. pos 1 ≤ℤ y) x p values) (All-tail (λ y. pos 0 ≤ℤ y) w own weights) later) (Any-cases (λ y. pos 0 <ℤ y) w own strict)
  where
    low : pos 1 ≤ℤ x
    low = All-head (λ y. pos 1 ≤ℤ y) x p values

    from : (Any (λ y. pos 0 <ℤ y) own → pos 1 ≤ℤ dot p own) → (pos 0 <ℤ w) ⊎ Any (λ y. pos 0 <ℤ y) own → pos 1 ≤ℤ (x *ℤ w +ℤ dot p own)
    from rest (inl now) =
        add_positive (x *ℤ w) (dot p own) (mul_positive x w low (at_least_one w now)) (own_nonneg p own (All-tail (λ y. pos 1 ≤ℤ y) x p values) (All-tail (λ y. pos 0 ≤ℤ y) w own weights))
    from rest (inr later) = positive_add (x *ℤ w) (dot p own) (mul_nonneg x w (weak x low) (All-head (λ y. pos 0 ≤ℤ y) w own weights)) (rest later)

weighted_positive : (f : ℕ → ℤ) (rows : List RowWeight) → All IsRowWeight rows → All (λ item. pos 0 ≤ℤ f item.row) rows → Any (λ item. pos 1 ≤ℤ f item.row) rows → pos 1 ≤ℤ weighted f rows
weighted_positive f [] are low (k, x, within, at, strict) = absurd (omega (arith, within))
weighted_positive f (x ∷ rows) are low strict =
    from (λ later. weighted_positive f rows (All-tail IsRowWeight x rows are) (All-tail (λ item. pos 0 ≤ℤ f item.row) x rows low) later) (Any-cases (λ item. pos 1 ≤ℤ f item.row) x rows strict)
  where
    weight : pos 1 ≤ℤ x.weight
    weight = at_least_one x.weight (All-head IsRowWeight x rows are).positive

    from : (Any (λ item. pos 1 ≤ℤ f item.row) rows → pos 1 ≤ℤ weighted f rows) → (pos 1 ≤ℤ f x.row) ⊎ Any (λ item. pos 1 ≤ℤ f item.row) rows → pos 1 ≤ℤ (x.weight *ℤ f x.row +ℤ weighted f rows)
    from rest (inl now) =
        add_positive (x.weight *ℤ f x.row) (weighted f rows) (mul_positive x.weight (f x.row) weight now)
        (weighted_nonneg f rows (All-tail IsRowWeight x rows are) (All-tail (λ item. pos 0 ≤ℤ f item.row) x rows low))
    from rest (inr later) =
        positive_add (x.weight *ℤ f x.row) (weighted f rows) (mul_nonneg x.weight (f x.row) (weak x.weight weight) (All-head (λ item. pos 0 ≤ℤ f item.row) x rows low)) (rest later)

Any-map : {X : Type 0} (P Q : X → Type 0) (xs : List X) → ((k : ℕ) (x : X) → k < length xs → P (get_or xs k x) → Q (get_or xs k x)) → Any P xs → Any Q xs
Any-map P Q xs each (k, x, within, at, h) = (k, x, within, at, subst Q at (each k x within (subst P (sym at) h)))

-- a clash on rows that a vector meets is none: each weighted row is one of the first rows, which the vector meets
pub met_is_no_clash : (columns : ℕ) (some more : List LoadedRow) (clash : Clash) (p : List ℤ) → IsClash columns (some ++ more) clash → MeetsRows columns some p
    → All (λ row. pos 0 ≤ℤ row.least) some → All (λ item. item.row ≤ length some) clash.rows → ⊥
met_is_no_clash columns some more clash p is meets leasts within =
    impossible (dot p clash.increments +ℤ weighted value clash.rows) (positive is.strict) (clash_value columns (some ++ more) clash p is meets.len)
  where
    value : ℕ → ℤ
    value r = dot p (loaded_at (some ++ more) (r - 1)).coefficients

    row_is : (r : ℕ) → 1 ≤ r → r ≤ length some → loaded_at (some ++ more) (r - 1) ≡ loaded_at some (r - 1)
    row_is r low high = get_or_append_left some more no_row (r - 1) (omega arith)

    at_least : (r : ℕ) → 1 ≤ r → r ≤ length some → (loaded_at (some ++ more) (r - 1)).least ≤ℤ value r
    at_least r low high =
        subst (λ (row : LoadedRow). row.least ≤ℤ dot p row.coefficients) (sym (row_is r low high))
        (subst (λ (n : ℤ). (loaded_at some (r - 1)).least ≤ℤ n) (dot_comm (loaded_at some (r - 1)).coefficients p) (meets.each (r - 1) (omega arith)))

    at_most : (a b : ℤ) → pos 0 ≤ℤ a → a ≤ℤ b → pos 0 ≤ℤ b
    at_most a b h k = omega (arith, ints)

    nonneg : (r : ℕ) → 1 ≤ r → r ≤ length some → pos 0 ≤ℤ value r
    nonneg r low high =
        at_most (loaded_at (some ++ more) (r - 1)).least (value r)
        (subst (λ (row : LoadedRow). pos 0 ≤ℤ row.least) (sym (row_is r low high)) (leasts (r - 1) no_row (omega arith))) (at_least r low high)

    each_nonneg : All (λ item. pos 0 ≤ℤ value item.row) clash.rows
    each_nonneg k x lt = nonneg (get_or clash.rows k x).row (is.weights.each k x lt).numbered (within k x lt)

    strict_row : Any (IsStrictRow (some ++ more)) clash.rows → Any (λ item. pos 1 ≤ℤ value item.row) clash.rows
    strict_row strict =
        Any-map (IsStrictRow (some ++ more)) (λ item. pos 1 ≤ℤ value item.row) clash.rows
        (λ k x lt e. subst (λ (n : ℤ). n ≤ℤ value (get_or clash.rows k x).row) e (at_least (get_or clash.rows k x).row (is.weights.each k x lt).numbered (within k x lt))) strict

    positive : Any (λ weight. pos 0 <ℤ weight) clash.increments ⊎ Any (IsStrictRow (some ++ more)) clash.rows → pos 1 ≤ℤ (dot p clash.increments +ℤ weighted value clash.rows)
    positive (inl own) =
        add_positive (dot p clash.increments) (weighted value clash.rows) (own_positive p clash.increments (meets.len ∙ sym is.len) meets.positive is.own own)
        (weighted_nonneg value clash.rows is.weights.each each_nonneg)
    positive (inr rows) =
        positive_add (dot p clash.increments) (weighted value clash.rows) (own_nonneg p clash.increments meets.positive is.own)
        (weighted_positive value clash.rows is.weights.each each_nonneg (strict_row rows))

    impossible : (a : ℤ) → pos 1 ≤ℤ a → a ≡ pos 0 → ⊥
    impossible a h e = omega (arith, ints)
