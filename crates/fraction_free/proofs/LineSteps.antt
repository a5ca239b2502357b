-- How far the loops over a line have come.
use Rattle.std.proofs.Common.{◌≡◌, ◌≢◌, ◌∙◌, inl, inr, ℕ, ◌+◌, ◌<◌, ◌≤◌, ℤ, pos, neg_ℤ, ◌-ℤ◌, ◌*ℤ◌, List, [], length, get_or, set, sym, ap, subst, refl, arith}
use Rattle.std.proofs.lemmas.List.{length-set, get_or-set_same, get_or-set_other}
use Rattle.std.proofs.lemmas.Bool.{cases_eq}
use Rattle.std.proofs.lemmas.Int.{ints}
use Rattle.std.proofs.Math.IntN.{*ℤ_comm, zero-*ℤ}
use Rattle.fraction_free.proofs.Signs.{with_sign-twice, with_sign-zero, with_sign-difference}
use Rattle.row_laws.specs.Rows.{entry}
use Rattle.fraction_free.specs.Changes.{with_sign, IsOtherLine, IsPivotLine, IsExchangedAt}

-- the numbers before a place are those after a pivot on another row, but for the column's, and the others are as they were
pub record IsExchangedTo (scale : ℤ) (column : ℕ) (pivot old now : List ℤ) (place : ℕ) : Type 0 where
  pub len : length now ≡ length old
  pub divided : (other : ℕ) → other < place → other ≢ column
      → entry now other *ℤ scale ≡ with_sign (entry pivot column) (entry pivot column *ℤ entry old other -ℤ entry old column *ℤ entry pivot other)
  pub rest : (other : ℕ) → place ≤ other → entry now other ≡ entry old other
  pub column_kept : entry now column ≡ entry old column

pub exchanged_none : (scale : ℤ) (column : ℕ) (pivot old : List ℤ) → IsExchangedTo scale column pivot old old 0
exchanged_none scale column pivot old = record { len = refl; divided = λ other below apart. absurd (omega arith); rest = λ other h. refl; column_kept = refl }

pub products : (a c d b w x y z : ℤ) → a ≡ w → c ≡ x → d ≡ y → b ≡ z → a *ℤ b -ℤ c *ℤ d ≡ w *ℤ z -ℤ x *ℤ y
products a c d b w x y z f g i j = rw (f, g, i, j) refl

pub exchanged_more : (scale : ℤ) (column : ℕ) (pivot old now new : List ℤ) (place : ℕ) (lead factor other : ℤ) → IsExchangedTo scale column pivot old now place → place ≢ column
    → lead ≡ with_sign (entry pivot column) (entry pivot column) → factor ≡ with_sign (entry pivot column) (entry old column) → other ≡ entry pivot place
    → IsExchangedAt scale lead factor other now new place → IsExchangedTo scale column pivot old new (place + 1)
exchanged_more scale column pivot old now new place lead factor number h apart i j k e =
    let p = entry pivot column in
    let here : entry new place *ℤ scale ≡ with_sign p (p *ℤ entry old place -ℤ entry old column *ℤ entry pivot place) =
    e.divided ∙ products lead factor number (entry now place) _ _ _ _ i j k (h.rest place (omega arith))
    ∙ with_sign-difference p (entry old place) (entry old column) (entry pivot place) in
    record {
      len = e.len ∙ h.len;
      divided = λ other below not_column.
          elim (cases_eq other place) [
            | inl same ↦
                ap (λ at. entry new at *ℤ scale) same ∙ here
                ∙ ap (λ at. with_sign p (p *ℤ entry old at -ℤ entry old column *ℤ entry pivot at)) (sym same)
            | inr other_place ↦ ap (λ (n : ℤ). n *ℤ scale) (e.others other other_place) ∙ h.divided other (omega arith) not_column
          ];
      rest = λ other above. e.others other (omega arith) ∙ h.rest other (omega arith);
      column_kept = e.others column (λ same. apart (sym same)) ∙ h.column_kept;
    }

-- a line with a 0 in the pivot's column stays, where the entry is the old scale up to its sign
pub stays : (scale : ℤ) (column : ℕ) (pivot old : List ℤ) → with_sign (entry pivot column) (entry pivot column) ≡ scale
    → with_sign (entry pivot column) (entry old column) ≡ pos 0 → IsOtherLine scale column pivot old old
stays scale column pivot old lead factor =
    let p = entry pivot column in
    let f = entry old column in
    let none : f ≡ pos 0 = sym (with_sign-twice p f) ∙ ap (with_sign p) factor ∙ with_sign-zero p in
    record {
      len = refl;
      kept = none ∙ sym factor;
      divided = λ other inside apart.
          let x = entry old other in
          let y = entry pivot other in
          alone scale x y ∙ ap (λ (n : ℤ). n *ℤ x -ℤ pos 0 *ℤ y) (sym lead) ∙ ap (λ (n : ℤ). with_sign p p *ℤ x -ℤ n *ℤ y) (sym factor) ∙ with_sign-difference p x f y;
    }
  where
    alone : (s x y : ℤ) → x *ℤ s ≡ s *ℤ x -ℤ pos 0 *ℤ y
    alone s x y = omega (arith, ints, *ℤ_comm x s, zero-*ℤ y)

pub exchanged_past_column : (scale : ℤ) (column : ℕ) (pivot old now : List ℤ) (place : ℕ) → IsExchangedTo scale column pivot old now place → place ≡ column → IsExchangedTo scale column pivot old now (place + 1)
exchanged_past_column scale column pivot old now place h same = record {
  len = h.len;
  divided = λ other below not_column. h.divided other (omega arith) not_column;
  rest = λ other above. h.rest other (omega arith);
  column_kept = h.column_kept;
}

pub exchanged_all : (scale : ℤ) (column : ℕ) (pivot old now new : List ℤ) (place : ℕ) (factor : ℤ) → IsExchangedTo scale column pivot old now place → length old ≤ place → column < length old
    → factor ≡ with_sign (entry pivot column) (entry old column) → new ≡ set now column factor → IsOtherLine scale column pivot old new
exchanged_all scale column pivot old now new place factor h all below value is =
    subst (λ (ns : List ℤ). IsOtherLine scale column pivot old ns) (sym is)
    (record {
      len = length-set now column factor ∙ h.len;
      kept = get_or-set_same now column factor (pos 0) (omega (arith, h.len)) ∙ value;
      divided = λ other inside apart. ap (λ (n : ℤ). n *ℤ scale) (get_or-set_other now column other factor (pos 0) apart) ∙ h.divided other (omega arith) apart;
    })

-- the same on the pivot's row
pub record IsLeftTo (column : ℕ) (old now : List ℤ) (place : ℕ) : Type 0 where
  pub len : length now ≡ length old
  pub negated : (other : ℕ) → other < place → other ≢ column → entry now other ≡ with_sign (entry old column) (neg_ℤ (entry old other))
  pub rest : (other : ℕ) → place ≤ other → entry now other ≡ entry old other
  pub column_kept : entry now column ≡ entry old column

pub left_none : (column : ℕ) (old : List ℤ) → IsLeftTo column old old 0
left_none column old = record { len = refl; negated = λ other below apart. absurd (omega arith); rest = λ other h. refl; column_kept = refl }

pub left_more : (column : ℕ) (old now : List ℤ) (place : ℕ) → IsLeftTo column old now place → place ≢ column → place < length old
    → IsLeftTo column old (set now place (with_sign (entry now column) (neg_ℤ (entry now place)))) (place + 1)
left_more column old now place h apart inside = record {
  len = length-set now place _ ∙ h.len;
  negated = λ other below not_column.
      elim (cases_eq other place) [
        | inl same ↦
            ap (entry (set now place (with_sign (entry now column) (neg_ℤ (entry now place))))) same
            ∙ get_or-set_same now place (with_sign (entry now column) (neg_ℤ (entry now place))) (pos 0) (omega (arith, h.len))
            ∙ ap (λ (n : ℤ). with_sign n (neg_ℤ (entry now place))) h.column_kept
            ∙ ap (λ (n : ℤ). with_sign (entry old column) (neg_ℤ n)) (h.rest place (omega arith) ∙ ap (entry old) (sym same))
        | inr other_place ↦ get_or-set_other now place other _ (pos 0) other_place ∙ h.negated other (omega arith) not_column
      ];
  rest = λ other above. get_or-set_other now place other _ (pos 0) (omega arith) ∙ h.rest other (omega arith);
  column_kept = get_or-set_other now place column _ (pos 0) (λ same. apart (sym same)) ∙ h.column_kept;
}

pub left_past_column : (column : ℕ) (old now : List ℤ) (place : ℕ) → IsLeftTo column old now place → place ≡ column → IsLeftTo column old now (place + 1)
left_past_column column old now place h same = record {
  len = h.len;
  negated = λ other below not_column. h.negated other (omega arith) not_column;
  rest = λ other above. h.rest other (omega arith);
  column_kept = h.column_kept;
}

pub left_all : (scale : ℤ) (column : ℕ) (old now : List ℤ) (place : ℕ) → IsLeftTo column old now place → length old ≤ place → column < length old
    → IsPivotLine scale column old (set now column (with_sign (entry now column) scale))
left_all scale column old now place h all below = record {
  len = length-set now column _ ∙ h.len;
  kept = get_or-set_same now column _ (pos 0) (omega (arith, h.len)) ∙ ap (λ (n : ℤ). with_sign n scale) h.column_kept;
  negated = λ other inside apart. get_or-set_other now column other _ (pos 0) apart ∙ h.negated other (omega arith) apart;
}

-- the lines before a row are those after a pivot, and the others are as they were
pub record AreExchangedTo (scale : ℤ) (at column : ℕ) (old now : List (List ℤ)) (row : ℕ) : Type 0 where
  pub len : length now ≡ length old
  pub pivot_line : at < row → IsPivotLine scale column (get_or old at []) (get_or now at [])
  pub other_lines : (other : ℕ) → other < row → other ≢ at → IsOtherLine scale column (get_or old at []) (get_or old other []) (get_or now other [])
  pub rest : (other : ℕ) → row ≤ other → get_or now other [] ≡ get_or old other []

-- a row that is written, and the others
written : (now next : List (List ℤ)) (row : ℕ) (line : List ℤ) → row < length now → next ≡ set now row line → get_or next row [] ≡ line
written now next row line below is = ap (λ (ls : List (List ℤ)). get_or ls row []) is ∙ get_or-set_same now row line [] below

unwritten : (now next : List (List ℤ)) (row : ℕ) (line : List ℤ) → next ≡ set now row line → (other : ℕ) → other ≢ row → get_or next other [] ≡ get_or now other []
unwritten now next row line is other apart = ap (λ (ls : List (List ℤ)). get_or ls other []) is ∙ get_or-set_other now row other line [] apart

pub lines_left : (s : ℤ) (at column : ℕ) (old now next : List (List ℤ)) (row : ℕ) (line : List ℤ) → AreExchangedTo s at column old now row → row ≡ at → row < length old
    → next ≡ set now row line → IsPivotLine s column (get_or old at []) line → AreExchangedTo s at column old next (row + 1)
lines_left s at column old now next row line h same below is p =
    let here = written now next row line (omega (arith, h.len)) is in
    let there = unwritten now next row line is in
    record {
      len = ap length is ∙ length-set now row line ∙ h.len;
      pivot_line = λ before. subst (IsPivotLine s column (get_or old at [])) (sym (ap (λ k. get_or next k []) (sym same) ∙ here)) p;
      other_lines = λ other before apart. subst (IsOtherLine s column (get_or old at []) (get_or old other [])) (sym (there other (omega arith))) (h.other_lines other (omega arith) apart);
      rest = λ other above. there other (omega arith) ∙ h.rest other (omega arith);
    }

pub lines_exchanged : (s : ℤ) (at column : ℕ) (old now next : List (List ℤ)) (row : ℕ) (line : List ℤ) → AreExchangedTo s at column old now row → row ≢ at → row < length old
    → next ≡ set now row line → IsOtherLine s column (get_or old at []) (get_or old row []) line → AreExchangedTo s at column old next (row + 1)
lines_exchanged s at column old now next row line h not_at below is p =
    let here = written now next row line (omega (arith, h.len)) is in
    let there = unwritten now next row line is in
    record {
      len = ap length is ∙ length-set now row line ∙ h.len;
      pivot_line = λ before. subst (IsPivotLine s column (get_or old at [])) (sym (there at (λ e. not_at (sym e)))) (h.pivot_line (omega arith));
      other_lines = λ other before apart.
          elim (cases_eq other row) [
            | inl same ↦
                subst (λ k. IsOtherLine s column (get_or old at []) (get_or old k []) (get_or next k [])) (sym same)
                (subst (IsOtherLine s column (get_or old at []) (get_or old row [])) (sym here) p)
            | inr other_row ↦ subst (IsOtherLine s column (get_or old at []) (get_or old other [])) (sym (there other other_row)) (h.other_lines other (omega arith) apart)
          ];
      rest = λ other above. there other (omega arith) ∙ h.rest other (omega arith);
    }
