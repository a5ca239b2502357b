-- An exchange keeps the solutions.
use Rattle.std.proofs.Common.{◌≡◌, ◌≢◌, ℕ, ◌<◌, Bool, true, false, cond, ℤ, pos, neg_ℤ, ◌+ℤ◌, ◌-ℤ◌, ◌*ℤ◌, ◌<ℤ◌, refl, sym, ap, ◌∙◌, ◌⊎◌, inl, inr, arith}
use Rattle.std.specs.Prelude.{◌==◌}
use Rattle.std.proofs.lemmas.Bool.{cond-true, cond-false, cases_Bool, eq-eqb, eqb-true, true≢false, false≢true}
use Rattle.row_laws.proofs.Integers.{sums, mul-add, mul-sub, sub-mul, neg-mul, mul_assoc, mul_left_comm, mul-zero, zero-mul, cancel}
use Rattle.least_index.specs.Dictionary.{RationalDictionary, sum_below, term, right_side, IsSolution, exchanged}
use Rattle.least_index.proofs.Sums.{sum-ext, sum-mix, at_place, sum-at_place}
use Rattle.row_laws.proofs.Signs.{positive_is_not_zero}

-- a pivot on a positive entry
pub record IsExchange (t : RationalDictionary) (leaving entering : ℕ) : Type 0 where
  pub leaving_within : leaving < t.size
  pub entering_within : entering < t.size
  pub leaving_basic : t.is_basic leaving ≡ true
  pub entering_free : t.is_basic entering ≡ false
  pub scale_positive : pos 0 <ℤ t.scale
  pub pivot_positive : pos 0 <ℤ t.entry leaving entering

-- what a variable w adds after the exchange to the equation of a variable other than the entering one
other_step : (wc wr bw : Bool) (s p evc evw erw xw xr : ℤ)
    → (wc ≡ true → (evw ≡ evc) × (erw ≡ p) × (bw ≡ false))
    → (wr ≡ true → (bw ≡ true) × (xw ≡ xr))
    → cond (cond wc true (cond wr false bw)) (pos 0) (cond wr (s *ℤ evc) (p *ℤ evw -ℤ evc *ℤ erw) *ℤ xw)
    ≡ p *ℤ cond bw (pos 0) (evw *ℤ xw) -ℤ evc *ℤ cond bw (pos 0) (erw *ℤ xw) +ℤ cond wr (s *ℤ evc *ℤ xr) (pos 0) +ℤ cond wr (pos 0) (pos 0)
other_step true true bw s p evc evw erw xw xr h k = absurd (true≢false (sym (k refl).0 ∙ (h refl).2))
other_step true false true s p evc evw erw xw xr h k = absurd (true≢false (h refl).2)
other_step true false false s p evc evw erw xw xr h k =
    let one : p *ℤ (evw *ℤ xw) ≡ p *ℤ (evc *ℤ xw) = ap (λ (e : ℤ). p *ℤ (e *ℤ xw)) (h refl).0 in
    let two : evc *ℤ (erw *ℤ xw) ≡ evc *ℤ (p *ℤ xw) = ap (λ (e : ℤ). evc *ℤ (e *ℤ xw)) (h refl).1 in
    omega (arith, sums, mul_left_comm p evc xw, one, two)
other_step false true false s p evc evw erw xw xr h k = absurd (false≢true (k refl).0)
other_step false true true s p evc evw erw xw xr h k =
    let one : s *ℤ evc *ℤ xw ≡ s *ℤ evc *ℤ xr = ap (λ (e : ℤ). s *ℤ evc *ℤ e) (k refl).1 in
    omega (arith, sums, one, mul-zero p, mul-zero evc)
other_step false false true s p evc evw erw xw xr h k = omega (arith, sums, mul-zero p, mul-zero evc)
other_step false false false s p evc evw erw xw xr h k =
    omega (arith, sums, sub-mul (p *ℤ evw) (evc *ℤ erw) xw, mul_assoc p evw xw, mul_assoc evc erw xw)

other_term : (vc wc wr bw : Bool) (z s p evc evw erw xw xr : ℤ)
    → vc ≡ false
    → (wc ≡ true → (evw ≡ evc) × (erw ≡ p) × (bw ≡ false))
    → (wr ≡ true → (bw ≡ true) × (xw ≡ xr))
    → cond (cond wc true (cond wr false bw)) (pos 0) (cond vc z (cond wr (s *ℤ evc) (p *ℤ evw -ℤ evc *ℤ erw)) *ℤ xw)
    ≡ p *ℤ cond bw (pos 0) (evw *ℤ xw) -ℤ evc *ℤ cond bw (pos 0) (erw *ℤ xw) +ℤ cond wr (s *ℤ evc *ℤ xr) (pos 0) +ℤ cond wr (pos 0) (pos 0)
other_term true wc wr bw z s p evc evw erw xw xr e h k = absurd (true≢false e)
other_term false wc wr bw z s p evc evw erw xw xr e h k = other_step wc wr bw s p evc evw erw xw xr h k

-- and to that of the entering one
entering_step : (wc wr bw : Bool) (s p erw xw xr xc : ℤ)
    → (wc ≡ true → (erw ≡ p) × (xw ≡ xc) × (bw ≡ false))
    → (wr ≡ true → (bw ≡ true) × (xw ≡ xr))
    → cond (cond wc true (cond wr false bw)) (pos 0) (cond wr (s *ℤ s) (neg_ℤ (s *ℤ erw)) *ℤ xw)
    ≡ pos 0 *ℤ cond bw (pos 0) (erw *ℤ xw) -ℤ s *ℤ cond bw (pos 0) (erw *ℤ xw) +ℤ cond wr (s *ℤ s *ℤ xr) (pos 0) +ℤ cond wc (s *ℤ (p *ℤ xc)) (pos 0)
entering_step true true bw s p erw xw xr xc h k = absurd (true≢false (sym (k refl).0 ∙ (h refl).2))
entering_step true false true s p erw xw xr xc h k = absurd (true≢false (h refl).2)
entering_step true false false s p erw xw xr xc h k =
    let one : s *ℤ (erw *ℤ xw) ≡ s *ℤ (p *ℤ xw) = ap (λ (e : ℤ). s *ℤ (e *ℤ xw)) (h refl).0 in
    let two : s *ℤ (p *ℤ xw) ≡ s *ℤ (p *ℤ xc) = ap (λ (e : ℤ). s *ℤ (p *ℤ e)) (h refl).1 in
    omega (arith, sums, zero-mul (erw *ℤ xw), one, two)
entering_step false true false s p erw xw xr xc h k = absurd (false≢true (k refl).0)
entering_step false true true s p erw xw xr xc h k =
    let one : s *ℤ s *ℤ xw ≡ s *ℤ s *ℤ xr = ap (λ (e : ℤ). s *ℤ s *ℤ e) (k refl).1 in
    omega (arith, sums, one, mul-zero s, mul-zero (pos 0))
entering_step false false true s p erw xw xr xc h k = omega (arith, sums, mul-zero s, mul-zero (pos 0))
entering_step false false false s p erw xw xr xc h k =
    omega (arith, sums, zero-mul (erw *ℤ xw), neg-mul (s *ℤ erw) xw, mul_assoc s erw xw)

entering_term : (vc wc wr bw : Bool) (z s p erw xw xr xc : ℤ)
    → vc ≡ true
    → (wc ≡ true → (erw ≡ p) × (xw ≡ xc) × (bw ≡ false))
    → (wr ≡ true → (bw ≡ true) × (xw ≡ xr))
    → cond (cond wc true (cond wr false bw)) (pos 0) (cond vc (cond wr (s *ℤ s) (neg_ℤ (s *ℤ erw))) z *ℤ xw)
    ≡ pos 0 *ℤ cond bw (pos 0) (erw *ℤ xw) -ℤ s *ℤ cond bw (pos 0) (erw *ℤ xw) +ℤ cond wr (s *ℤ s *ℤ xr) (pos 0) +ℤ cond wc (s *ℤ (p *ℤ xc)) (pos 0)
entering_term false wc wr bw z s p erw xw xr xc e h k = absurd (false≢true e)
entering_term true wc wr bw z s p erw xw xr xc e h k = entering_step wc wr bw s p erw xw xr xc h k

other_algebra : (one s p evc cv cr sv sr xr sums_new : ℤ)
    → sums_new ≡ p *ℤ sv -ℤ evc *ℤ sr +ℤ s *ℤ evc *ℤ xr +ℤ pos 0
    → (p *ℤ cv -ℤ evc *ℤ cr) *ℤ one +ℤ sums_new ≡ p *ℤ (cv *ℤ one +ℤ sv) +ℤ evc *ℤ (s *ℤ xr -ℤ (cr *ℤ one +ℤ sr))
other_algebra one s p evc cv cr sv sr xr sums_new e =
    omega (arith, sums, e, sub-mul (p *ℤ cv) (evc *ℤ cr) one, mul_assoc p cv one, mul_assoc evc cr one, mul-add p (cv *ℤ one) sv, mul-sub evc (s *ℤ xr) (cr *ℤ one +ℤ sr), mul-add evc (cr *ℤ one) sr, mul_assoc s evc xr, mul_left_comm s evc xr)

entering_algebra : (one s p cr sr xr xc sums_new : ℤ)
    → sums_new ≡ pos 0 *ℤ sr -ℤ s *ℤ sr +ℤ s *ℤ s *ℤ xr +ℤ s *ℤ (p *ℤ xc)
    → neg_ℤ (s *ℤ cr) *ℤ one +ℤ sums_new ≡ s *ℤ (s *ℤ xr -ℤ (cr *ℤ one +ℤ sr) +ℤ p *ℤ xc)
entering_algebra one s p cr sr xr xc sums_new e =
    omega (arith, sums, e, zero-mul sr, neg-mul (s *ℤ cr) one, mul_assoc s cr one, mul_assoc s s xr, mul-add s (s *ℤ xr -ℤ (cr *ℤ one +ℤ sr)) (p *ℤ xc), mul-sub s (s *ℤ xr) (cr *ℤ one +ℤ sr), mul-add s (cr *ℤ one) sr)

-- the new right side of a variable other than the entering one
pub other_right_side : (t : RationalDictionary) (leaving entering : ℕ) (one : ℤ) (x : ℕ → ℤ) (v : ℕ)
    → IsExchange t leaving entering → (v == entering) ≡ false
    → right_side (exchanged t leaving entering) one x v
    ≡ t.entry leaving entering *ℤ right_side t one x v +ℤ t.entry v entering *ℤ (t.scale *ℤ x leaving -ℤ right_side t one x leaving)
other_right_side t leaving entering one x v is other =
    let s : ℤ = t.scale in
    let p : ℤ = t.entry leaving entering in
    let evc : ℤ = t.entry v entering in
    let f : ℕ → ℤ = term t v x in
    let g : ℕ → ℤ = term t leaving x in
    let h : ℕ → ℤ = at_place leaving (t.scale *ℤ t.entry v entering *ℤ x leaving) in
    let k : ℕ → ℤ = at_place leaving (pos 0) in
    let pointwise : sum_below (term (exchanged t leaving entering) v x) t.size ≡ sum_below (λ w. p *ℤ f w -ℤ evc *ℤ g w +ℤ h w +ℤ k w) t.size =
    sum-ext (term (exchanged t leaving entering) v x) (λ w. p *ℤ f w -ℤ evc *ℤ g w +ℤ h w +ℤ k w) t.size
    (λ w lt. other_term (v == entering) (w == entering) (w == leaving) (t.is_basic w) (cond (w == leaving) (t.scale *ℤ t.scale) (neg_ℤ (t.scale *ℤ t.entry leaving w))) t.scale (t.entry leaving entering) (t.entry v entering) (t.entry v w) (t.entry leaving w) (x w) (x leaving) other
    (λ e. let same : w ≡ entering = eqb-true w entering e in (ap (t.entry v) same, ap (t.entry leaving) same, ap t.is_basic same ∙ is.entering_free))
    (λ e. let same : w ≡ leaving = eqb-true w leaving e in (ap t.is_basic same ∙ is.leaving_basic, ap x same))) in
    let summed : sum_below (term (exchanged t leaving entering) v x) t.size ≡ p *ℤ sum_below f t.size -ℤ evc *ℤ sum_below g t.size +ℤ t.scale *ℤ t.entry v entering *ℤ x leaving +ℤ pos 0 =
    pointwise ∙ sum-mix p evc f g h k t.size
    ∙ ap (λ (n : ℤ). p *ℤ sum_below f t.size -ℤ evc *ℤ sum_below g t.size +ℤ n +ℤ sum_below k t.size) (sum-at_place leaving (t.scale *ℤ t.entry v entering *ℤ x leaving) t.size is.leaving_within)
    ∙ ap (λ (n : ℤ). p *ℤ sum_below f t.size -ℤ evc *ℤ sum_below g t.size +ℤ t.scale *ℤ t.entry v entering *ℤ x leaving +ℤ n) (sum-at_place leaving (pos 0) t.size is.leaving_within) in
    ap (λ (n : ℤ). n *ℤ one +ℤ sum_below (term (exchanged t leaving entering) v x) t.size) (cond-false (v == entering) (neg_ℤ (t.scale *ℤ t.constant leaving)) (t.entry leaving entering *ℤ t.constant v -ℤ t.entry v entering *ℤ t.constant leaving) other)
    ∙ other_algebra one t.scale (t.entry leaving entering) (t.entry v entering) (t.constant v) (t.constant leaving) (sum_below f t.size) (sum_below g t.size) (x leaving) (sum_below (term (exchanged t leaving entering) v x) t.size) summed

-- and that of the entering one
pub entering_right_side : (t : RationalDictionary) (leaving entering : ℕ) (one : ℤ) (x : ℕ → ℤ) (v : ℕ)
    → IsExchange t leaving entering → (v == entering) ≡ true
    → right_side (exchanged t leaving entering) one x v
    ≡ t.scale *ℤ (t.scale *ℤ x leaving -ℤ right_side t one x leaving +ℤ t.entry leaving entering *ℤ x entering)
entering_right_side t leaving entering one x v is here =
    let f : ℕ → ℤ = term t leaving x in
    let h : ℕ → ℤ = at_place leaving (t.scale *ℤ t.scale *ℤ x leaving) in
    let k : ℕ → ℤ = at_place entering (t.scale *ℤ (t.entry leaving entering *ℤ x entering)) in
    let pointwise : sum_below (term (exchanged t leaving entering) v x) t.size ≡ sum_below (λ w. pos 0 *ℤ f w -ℤ t.scale *ℤ f w +ℤ h w +ℤ k w) t.size =
    sum-ext (term (exchanged t leaving entering) v x) (λ w. pos 0 *ℤ f w -ℤ t.scale *ℤ f w +ℤ h w +ℤ k w) t.size
    (λ w lt. entering_term (v == entering) (w == entering) (w == leaving) (t.is_basic w) (cond (w == leaving) (t.scale *ℤ t.entry v entering) (t.entry leaving entering *ℤ t.entry v w -ℤ t.entry v entering *ℤ t.entry leaving w)) t.scale (t.entry leaving entering) (t.entry leaving w) (x w) (x leaving) (x entering) here
    (λ e. let same : w ≡ entering = eqb-true w entering e in (ap (t.entry leaving) same, ap x same, ap t.is_basic same ∙ is.entering_free))
    (λ e. let same : w ≡ leaving = eqb-true w leaving e in (ap t.is_basic same ∙ is.leaving_basic, ap x same))) in
    let summed : sum_below (term (exchanged t leaving entering) v x) t.size ≡ pos 0 *ℤ sum_below f t.size -ℤ t.scale *ℤ sum_below f t.size +ℤ t.scale *ℤ t.scale *ℤ x leaving +ℤ t.scale *ℤ (t.entry leaving entering *ℤ x entering) =
    pointwise ∙ sum-mix (pos 0) t.scale f f h k t.size
    ∙ ap (λ (n : ℤ). pos 0 *ℤ sum_below f t.size -ℤ t.scale *ℤ sum_below f t.size +ℤ n +ℤ sum_below k t.size) (sum-at_place leaving (t.scale *ℤ t.scale *ℤ x leaving) t.size is.leaving_within)
    ∙ ap (λ (n : ℤ). pos 0 *ℤ sum_below f t.size -ℤ t.scale *ℤ sum_below f t.size +ℤ t.scale *ℤ t.scale *ℤ x leaving +ℤ n) (sum-at_place entering (t.scale *ℤ (t.entry leaving entering *ℤ x entering)) t.size is.entering_within) in
    ap (λ (n : ℤ). n *ℤ one +ℤ sum_below (term (exchanged t leaving entering) v x) t.size) (cond-true (v == entering) (neg_ℤ (t.scale *ℤ t.constant leaving)) (t.entry leaving entering *ℤ t.constant v -ℤ t.entry v entering *ℤ t.constant leaving) here)
    ∙ entering_algebra one t.scale (t.entry leaving entering) (t.constant leaving) (sum_below f t.size) (x leaving) (x entering) (sum_below (term (exchanged t leaving entering) v x) t.size) summed

-- which variables are basic after the exchange
pub still_basic : (c r b : Bool) → c ≡ false → cond c true (cond r false b) ≡ true → b ≡ true
still_basic true r b e h = absurd (true≢false e)
still_basic false true b e h = absurd (false≢true h)
still_basic false false b e h = h

forward_other : (s p xv rv evc xr rr : ℤ) → s *ℤ xv ≡ rv → s *ℤ xr ≡ rr → s *ℤ p *ℤ xv ≡ p *ℤ rv +ℤ evc *ℤ (s *ℤ xr -ℤ rr)
forward_other s p xv rv evc xr rr e r =
    let none : evc *ℤ (s *ℤ xr -ℤ rr) ≡ pos 0 = ap (λ (n : ℤ). evc *ℤ n) (difference (s *ℤ xr) rr r) ∙ mul-zero evc in
    let scaled : p *ℤ (s *ℤ xv) ≡ p *ℤ rv = ap (λ (n : ℤ). p *ℤ n) e in
    omega (arith, sums, none, scaled, mul_assoc s p xv, mul_left_comm s p xv)
  where
    difference : (a b : ℤ) → a ≡ b → a -ℤ b ≡ pos 0
    difference a b e = omega (arith, sums)

forward_entering : (s p xc xr rr : ℤ) → s *ℤ xr ≡ rr → s *ℤ p *ℤ xc ≡ s *ℤ (s *ℤ xr -ℤ rr +ℤ p *ℤ xc)
forward_entering s p xc xr rr r =
    mul_assoc s p xc ∙ ap (λ (n : ℤ). s *ℤ n) (same (s *ℤ xr) rr (p *ℤ xc) r)
  where
    same : (a b c : ℤ) → a ≡ b → c ≡ a -ℤ b +ℤ c
    same a b c e = omega (arith, sums)

-- what satisfies a dictionary satisfies it after an exchange
pub exchange_keeps : (t : RationalDictionary) (leaving entering : ℕ) (one : ℤ) (x : ℕ → ℤ)
    → IsExchange t leaving entering → IsSolution t one x → IsSolution (exchanged t leaving entering) one x
exchange_keeps t leaving entering one x is sat = record {
  each = λ v lt basic. step v lt basic (cases_Bool (v == entering));
}
  where
    row : t.scale *ℤ x leaving ≡ right_side t one x leaving
    row = sat.each leaving is.leaving_within is.leaving_basic

    step : (v : ℕ) → v < t.size → (exchanged t leaving entering).is_basic v ≡ true → ((v == entering) ≡ true) ⊎ ((v == entering) ≡ false) → (exchanged t leaving entering).scale *ℤ x v ≡ right_side (exchanged t leaving entering) one x v
    step v lt basic (inl e) =
        let same : v ≡ entering = eqb-true v entering e in
        ap (λ (n : ℕ). t.scale *ℤ t.entry leaving entering *ℤ x n) same
        ∙ forward_entering t.scale (t.entry leaving entering) (x entering) (x leaving) (right_side t one x leaving) row
        ∙ sym (entering_right_side t leaving entering one x v is e)
    step v lt basic (inr e) =
        forward_other t.scale (t.entry leaving entering) (x v) (right_side t one x v) (t.entry v entering) (x leaving) (right_side t one x leaving)
        (sat.each v lt (still_basic (v == entering) (v == leaving) (t.is_basic v) e basic)) row
        ∙ sym (other_right_side t leaving entering one x v is e)

back_leaving : (s p xc a : ℤ) → s ≢ pos 0 → s *ℤ p *ℤ xc ≡ s *ℤ (a +ℤ p *ℤ xc) → a ≡ pos 0
back_leaving s p xc a ne e =
    let inner : p *ℤ xc ≡ a +ℤ p *ℤ xc = cancel s (p *ℤ xc) (a +ℤ p *ℤ xc) ne (sym (mul_assoc s p xc) ∙ e) in
    omega (arith, sums)

back_other : (s p xv rv evc a : ℤ) → p ≢ pos 0 → a ≡ pos 0 → s *ℤ p *ℤ xv ≡ p *ℤ rv +ℤ evc *ℤ a → s *ℤ xv ≡ rv
back_other s p xv rv evc a ne none e =
    let gone : evc *ℤ a ≡ pos 0 = ap (λ (n : ℤ). evc *ℤ n) none ∙ mul-zero evc in
    cancel p (s *ℤ xv) rv ne (omega (arith, sums, e, gone, mul_assoc s p xv, mul_left_comm s p xv))

-- and the other way
pub exchange_reflects : (t : RationalDictionary) (leaving entering : ℕ) (one : ℤ) (x : ℕ → ℤ)
    → IsExchange t leaving entering → IsSolution (exchanged t leaving entering) one x → IsSolution t one x
exchange_reflects t leaving entering one x is sat = record {
  each = λ v lt basic. step v lt basic (cases_Bool (v == entering)) (cases_Bool (v == leaving));
}
  where
    same_entering : (entering == entering) ≡ true
    same_entering = eq-eqb entering entering refl

    new_basic : (exchanged t leaving entering).is_basic entering ≡ true
    new_basic = cond-true (entering == entering) true (cond (entering == leaving) false (t.is_basic entering)) same_entering

    none : t.scale *ℤ x leaving -ℤ right_side t one x leaving ≡ pos 0
    none =
        back_leaving t.scale (t.entry leaving entering) (x entering) (t.scale *ℤ x leaving -ℤ right_side t one x leaving) (positive_is_not_zero t.scale is.scale_positive)
        (sat.each entering is.entering_within new_basic ∙ entering_right_side t leaving entering one x entering is same_entering)

    equal : (a b : ℤ) → a -ℤ b ≡ pos 0 → a ≡ b
    equal a b e = omega (arith, sums)

    stays : (v : ℕ) → (v == entering) ≡ false → (v == leaving) ≡ false → t.is_basic v ≡ true → (exchanged t leaving entering).is_basic v ≡ true
    stays v c r b = cond-false (v == entering) true (cond (v == leaving) false (t.is_basic v)) c ∙ cond-false (v == leaving) false (t.is_basic v) r ∙ b

    step : (v : ℕ) → v < t.size → t.is_basic v ≡ true → ((v == entering) ≡ true) ⊎ ((v == entering) ≡ false) → ((v == leaving) ≡ true) ⊎ ((v == leaving) ≡ false) → t.scale *ℤ x v ≡ right_side t one x v
    step v lt basic (inl e) other =
        let same : v ≡ entering = eqb-true v entering e in
        absurd (true≢false (sym basic ∙ ap t.is_basic same ∙ is.entering_free))
    step v lt basic (inr e) (inl r) =
        let same : v ≡ leaving = eqb-true v leaving r in
        ap (λ (n : ℕ). t.scale *ℤ x n) same ∙ equal (t.scale *ℤ x leaving) (right_side t one x leaving) none ∙ ap (right_side t one x) (sym same)
    step v lt basic (inr e) (inr r) =
        back_other t.scale (t.entry leaving entering) (x v) (right_side t one x v) (t.entry v entering) (t.scale *ℤ x leaving -ℤ right_side t one x leaving)
        (positive_is_not_zero (t.entry leaving entering) is.pivot_positive) none
        (sat.each v lt (stays v e r basic) ∙ other_right_side t leaving entering one x v is e)
