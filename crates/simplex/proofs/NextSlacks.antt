-- The search for the least later slack with a positive weight.
use Rattle.std.proofs.Common.{◌≡◌, ◌≢◌, ℕ, ◌+◌, ◌<◌, ◌≤◌, true, false, length, Option, Some, None, MatchOption, ◌⊎◌, inl, inr, ℤ, pos, ◌<ℤ◌, refl, sym, ap, subst, arith}
use Rattle.std.specs.Prelude.{◌==◌}
use Rattle.std.proofs.lemmas.Bool.{cases_Bool, eqb-true, eqb-false}
use Rattle.fraction_free.specs.Dictionary.{DictionaryView, IsDictionary}
use Rattle.simplex.specs.Equation.{variable_at, weight_at, IsNextWeight, HasNoNextWeight}
use Rattle.simplex.proofs.Equations.{variable_range}

-- by the places below n
pub record NextSoFar (d : DictionaryView) (row above n least : ℕ) (found : Option (ℕ × ℤ)) : Type 0 where
  pub below : (p : ℕ) → p < n → above < variable_at d row p → pos 0 <ℤ weight_at d row p → least ≤ variable_at d row p
  pub found_is : MatchOption found (least ≡ 4294967295) (λ f. (p : ℕ) × (p < n) × (above < variable_at d row p) × (pos 0 <ℤ weight_at d row p)
      × (f.0 ≡ variable_at d row p) × (f.1 ≡ weight_at d row p) × (least ≡ variable_at d row p))

pub next_none : (d : DictionaryView) (row above : ℕ) → NextSoFar d row above 0 4294967295 None
next_none d row above = record { below = λ p lt a b. absurd (omega arith); found_is = refl }

pub next_found : (d : DictionaryView) (row above n least v : ℕ) (w : ℤ) (found : Option (ℕ × ℤ)) → v ≡ variable_at d row n → w ≡ weight_at d row n → above < v → pos 0 <ℤ w → v < least
    → NextSoFar d row above n least found → NextSoFar d row above (n + 1) v (Some (v, w))
next_found d row above n least v w found ev ew gt positive lt so = record {
  below = λ p l a b. here p l a b (cases_Bool (p == n));
  found_is = (n, omega arith, omega (arith, ev), subst (λ (x : ℤ). pos 0 <ℤ x) ew positive, ev, ew, ev);
}
  where
    here : (p : ℕ) → p < n + 1 → above < variable_at d row p → pos 0 <ℤ weight_at d row p → ((p == n) ≡ true) ⊎ ((p == n) ≡ false) → v ≤ variable_at d row p
    here p l a b (inl e) = let same : variable_at d row p ≡ variable_at d row n = ap (variable_at d row) (eqb-true p n e) in omega (arith, ev)
    here p l a b (inr e) = let ne : p ≢ n = eqb-false p n e in let le : least ≤ variable_at d row p = so.below p (omega arith) a b in omega arith

widened : (d : DictionaryView) (row above n least : ℕ) (found : Option (ℕ × ℤ))
    → MatchOption found (least ≡ 4294967295) (λ f. (p : ℕ) × (p < n) × (above < variable_at d row p) × (pos 0 <ℤ weight_at d row p) × (f.0 ≡ variable_at d row p) × (f.1 ≡ weight_at d row p) × (least ≡ variable_at d row p))
    → MatchOption found (least ≡ 4294967295) (λ f. (p : ℕ) × (p < n + 1) × (above < variable_at d row p) × (pos 0 <ℤ weight_at d row p) × (f.0 ≡ variable_at d row p) × (f.1 ≡ weight_at d row p) × (least ≡ variable_at d row p))
widened d row above n least None h = h
widened d row above n least (Some f) h = (h.0, (let l = h.1 in omega arith), h.2, h.3, h.4, h.5, h.6)

pub next_passed : (d : DictionaryView) (row above n least : ℕ) (found : Option (ℕ × ℤ)) → (above < variable_at d row n → pos 0 <ℤ weight_at d row n → least ≤ variable_at d row n)
    → NextSoFar d row above n least found → NextSoFar d row above (n + 1) least found
next_passed d row above n least found le so = record {
  below = λ p l a b. here p l a b (cases_Bool (p == n));
  found_is = widened d row above n least found so.found_is;
}
  where
    here : (p : ℕ) → p < n + 1 → above < variable_at d row p → pos 0 <ℤ weight_at d row p → ((p == n) ≡ true) ⊎ ((p == n) ≡ false) → least ≤ variable_at d row p
    here p l a b (inl e) =
        let same : p ≡ n = eqb-true p n e in
        subst (λ (m : ℕ). least ≤ variable_at d row m) (sym same) (le (subst (λ (m : ℕ). above < variable_at d row m) same a) (subst (λ (m : ℕ). pos 0 <ℤ weight_at d row m) same b))
    here p l a b (inr e) = let ne : p ≢ n = eqb-false p n e in so.below p (omega arith) a b

pub next_done : (d : DictionaryView) (row above n least : ℕ) (found : Option (ℕ × ℤ)) → IsDictionary d → row < length d.loaded → n ≡ d.columns + 1 → NextSoFar d row above n least found
    → MatchOption found (HasNoNextWeight d row above) (λ found. (place : ℕ) × IsNextWeight d row above place × (found.0 ≡ variable_at d row place) × (found.1 ≡ weight_at d row place))
next_done d row above n least found is lt e so = from found so.found_is
  where
    from : (found : Option (ℕ × ℤ))
        → MatchOption found (least ≡ 4294967295) (λ f. (p : ℕ) × (p < n) × (above < variable_at d row p) × (pos 0 <ℤ weight_at d row p) × (f.0 ≡ variable_at d row p) × (f.1 ≡ weight_at d row p) × (least ≡ variable_at d row p))
        → MatchOption found (HasNoNextWeight d row above) (λ found. (place : ℕ) × IsNextWeight d row above place × (found.0 ≡ variable_at d row place) × (found.1 ≡ weight_at d row place))
    from None none = λ p l a b.
        let le : least ≤ variable_at d row p = so.below p (omega arith) a b in
        let high : variable_at d row p ≤ d.columns + length d.loaded = (variable_range d is row p lt (omega arith)).1 in
        omega (arith, none, is.columns_most, is.rows_room, is.rows_most)
    from (Some f) h =
        let within : h.0 ≤ d.columns = let l = h.1 in omega (arith, e) in (
          h.0,
          record {
            within = within;
            later = h.2;
            positive = h.3;
            least = λ other l a b. let le : least ≤ variable_at d row other = so.below other (omega (arith, e)) a b in omega (arith, h.6);
          },
          h.4,
          h.5,
        )
