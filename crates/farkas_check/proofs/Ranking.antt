-- A proved verdict is the ranking of the pair: by values that meet the answers, each cited term of the total has the
-- sign of its weight, so the total has the sign that the verdict asks for, and so has the verdict's own gain.
use Rattle.std.proofs.Common.{◌≡◌, ℕ, zero, suc, ◌-◌, ◌≤◌, List, [], ◌∷◌, ◌++◌, length, take, get_or, All, Any, Option, Some, ℤ, pos, negsuc, ◌+ℤ◌, ◌*ℤ◌, ◌<ℤ◌, ◌≤ℤ◌, refl, sym, ap, subst, ◌∙◌, inl, inr, arith}
use Rattle.std.specs.Option.{option_map_or}
use Rattle.std.proofs.Math.Seq.{take-append_seam}
use Rattle.std.proofs.Math.IntN.{*ℤ-zero, zero-*ℤ, *ℤ_comm}
use Rattle.std.proofs.lemmas.Int.{ints}
use Rattle.std.proofs.lemmas.Option.{slice_get_cases}
use Rattle.std.proofs.lemmas.List.Elements.{All-head, All-tail, All-same, All-take}
use Rattle.criteria_model.specs.declared.pairs.Pair.{Pair}
use Rattle.criteria_model.specs.declared.pairs.Answer.{Answer}
use Rattle.criteria_model.specs.declared.pairs.Side.{Side}
use Rattle.criteria_model.specs.declared.pairs.Side.TheVariants.{Left, Right, Equal}
use Rattle.row_laws.specs.Rows.{dot, plus, times}
use Rattle.criteria_model.specs.Worth.{IsValueVector}
use Rattle.criteria_model.specs.Answers.{Meets, gain}
use Rattle.farkas_check.specs.declared.cites.Cite.{Cite}
use Rattle.farkas_check.specs.declared.combination.Combination.{Combination}
use Rattle.farkas_check.specs.Sums.{cited_side, cited_gain}
use Rattle.farkas_check.specs.Proof.{MayWeigh, IsStrict, HasStrict, Proves}
use Rattle.farkas_check.specs.Laws.{ProvedIsRanked}
use Rattle.farkas_check.proofs.SumLemmas.{total, dot_of_sums}
use Rattle.row_laws.proofs.Signs.{mul_nonneg, mul_positive, positive_from_multiple, zero_from_multiple}
use Rattle.row_laws.proofs.ListLemmas.{Any-cases, Any-here, Any-there}
use Rattle.row_laws.proofs.RowLemmas.{dot-plus, dot-times}
use Rattle.criteria_model.proofs.GainLemmas.{Favours, ranks_favours, favours_ranks}

-- ---- a weight times what its answer gains
term_nonneg : (side : Side) (weight z : ℤ) → MayWeigh side weight → Favours side z → pos 0 ≤ℤ (weight *ℤ z)
term_nonneg Left weight z may h = mul_nonneg weight z may (omega (arith, ints))
term_nonneg Right weight z may h = mul_nonneg weight z may (omega (arith, ints))
term_nonneg Equal weight z may h = omega (arith, ints, ap (λ x. weight *ℤ x) h, *ℤ-zero weight)

term_positive : (side : Side) (weight z : ℤ) → IsStrict side weight → Favours side z → pos 1 ≤ℤ (weight *ℤ z)
term_positive Left weight z strict h = mul_positive weight z (omega (arith, ints)) h
term_positive Right weight z strict h = mul_positive weight z (omega (arith, ints)) h
term_positive Equal weight z strict h = absurd strict

nothing : (weight z : ℤ) → pos 0 ≤ℤ weight → ¬ (pos 0 <ℤ weight) → weight *ℤ z ≡ pos 0
nothing (pos zero) z low high = zero-*ℤ z
nothing (pos (suc n)) z low high = absurd (high (omega (arith, ints)))
nothing (negsuc n) z low high = absurd (omega (arith, ints))

term_zero : (side : Side) (weight z : ℤ) → MayWeigh side weight → ¬ IsStrict side weight → Favours side z → weight *ℤ z ≡ pos 0
term_zero Left weight z may loose h = nothing weight z may loose
term_zero Right weight z may loose h = nothing weight z may loose
term_zero Equal weight z may loose h = ap (λ x. weight *ℤ x) h ∙ *ℤ-zero weight

-- ---- the values v meet the cited answers
-- the weight may stand on the cited answer, and the answer's gain has the sign of its side
pub record IsMet (levels : List ℕ) (answers : List Answer) (v : List ℤ) (cite : Cite) : Type 0 where
  pub may : MayWeigh (cited_side answers cite) cite.weight
  pub favours : Favours (cited_side answers cite) (dot v (cited_gain levels answers cite))

Favours-from_answer : (levels : List ℕ) (v : List ℤ) (found : Option Answer) (answer : Answer) → found ≡ Some answer → Meets levels v answer
    → Favours (option_map_or (λ a. a.side) found Equal) (dot v (option_map_or (λ a. gain levels a.pair a.side) found []))
Favours-from_answer levels v found answer is meets =
    subst (λ (o : Option Answer). Favours (option_map_or (λ a. a.side) o Equal) (dot v (option_map_or (λ a. gain levels a.pair a.side) o [])))
    (sym is) (ranks_favours levels v answer.pair answer.side meets)

Favours-from_cite : (levels : List ℕ) (answers : List Answer) (v : List ℤ) (cite : Cite) → All (Meets levels v) answers
    → (1 ≤ cite.answer) × (cite.answer ≤ length answers) → Favours (cited_side answers cite) (dot v (cited_gain levels answers cite))
Favours-from_cite levels answers v cite meets there =
    elim (slice_get_cases answers (cite.answer - 1)).1 [
      | inl found ↦ Favours-from_answer levels v _ found.0 found.2 (subst (Meets levels v) found.3 (meets (cite.answer - 1) found.0 found.1))
      | inr past ↦ absurd (omega (arith, there.0, there.1, past.0))
    ]

abbrev IsStrictCite : List Answer → Cite → Type 0
IsStrictCite answers cite = IsStrict (cited_side answers cite) cite.weight

module _ (levels : List ℕ) (answers : List Answer) (v : List ℤ) where
  -- one cite adds weight times what its answer gains
  added : (own : List ℤ) (cite : Cite)
      → dot v (plus own (times cite.weight (cited_gain levels answers cite))) ≡ dot v own +ℤ (cite.weight *ℤ dot v (cited_gain levels answers cite))
  added own cite =
      dot-plus v own (times cite.weight (cited_gain levels answers cite)) ∙ ap (λ x. dot v own +ℤ x) (dot-times cite.weight v (cited_gain levels answers cite))

  total_at_least : (own : List ℤ) (cites : List Cite) → All (IsMet levels answers v) cites → dot v own ≤ℤ dot v (total levels answers own cites)
  total_at_least own [] met = omega (arith, ints)
  total_at_least own (cite ∷ cites) met =
      let here = All-head (IsMet levels answers v) cite cites met in
      let more = plus own (times cite.weight (cited_gain levels answers cite)) in
      let step : dot v own ≤ℤ dot v more = omega (arith, ints, added own cite, term_nonneg (cited_side answers cite) cite.weight _ here.may here.favours) in
      let rest = total_at_least more cites (All-tail (IsMet levels answers v) cite cites met) in
      omega (arith, ints, step, rest)

  total_more : (own : List ℤ) (cites : List Cite) → All (IsMet levels answers v) cites → Any (IsStrictCite answers) cites
      → dot v own <ℤ dot v (total levels answers own cites)
  total_more own [] met (k, cite, within, at, strict) = absurd (omega (arith, within))
  total_more own (cite ∷ cites) met strict =
      let here = All-head (IsMet levels answers v) cite cites met in
      let others = All-tail (IsMet levels answers v) cite cites met in
      let more = plus own (times cite.weight (cited_gain levels answers cite)) in
      elim (Any-cases (IsStrictCite answers) cite cites strict) [
        | inl now ↦
            let step : dot v own <ℤ dot v more = omega (arith, ints, added own cite, term_positive (cited_side answers cite) cite.weight _ now here.favours) in
            let rest = total_at_least more cites others in
            omega (arith, ints, step, rest)
        | inr later ↦
            let step : dot v own ≤ℤ dot v more = omega (arith, ints, added own cite, term_nonneg (cited_side answers cite) cite.weight _ here.may here.favours) in
            let rest = total_more more cites others later in
            omega (arith, ints, step, rest)
      ]

  total_same : (own : List ℤ) (cites : List Cite) → All (IsMet levels answers v) cites → ¬ Any (IsStrictCite answers) cites
      → dot v (total levels answers own cites) ≡ dot v own
  total_same own [] met loose = refl
  total_same own (cite ∷ cites) met loose =
      let here = All-head (IsMet levels answers v) cite cites met in
      let others = All-tail (IsMet levels answers v) cite cites met in
      let more = plus own (times cite.weight (cited_gain levels answers cite)) in
      let step : dot v more ≡ dot v own =
      omega (arith, ints, added own cite, term_zero (cited_side answers cite) cite.weight (dot v (cited_gain levels answers cite)) here.may (λ now. loose (Any-here (IsStrictCite answers) cite cites now)) here.favours) in
      total_same more cites others (λ later. loose (Any-there (IsStrictCite answers) cite cites later)) ∙ step

-- ---- the increments' own weights
abbrev IsPositive : ℤ → Type 0
IsPositive x = pos 1 ≤ℤ x

abbrev IsNotNegative : ℤ → Type 0
IsNotNegative x = pos 0 ≤ℤ x

abbrev IsAboveZero : ℤ → Type 0
IsAboveZero x = pos 0 <ℤ x

own_nonneg : (v own : List ℤ) → All IsPositive v → All IsNotNegative own → pos 0 ≤ℤ dot v own
own_nonneg [] own values weights = omega (arith, ints)
own_nonneg (x ∷ v) [] values weights = omega (arith, ints)
own_nonneg (x ∷ v) (w ∷ own) values weights =
    let x_low = All-head IsPositive x v values in
    let term = mul_nonneg x w (omega (arith, ints, x_low)) (All-head IsNotNegative w own weights) in
    let rest = own_nonneg v own (All-tail IsPositive x v values) (All-tail IsNotNegative w own weights) in
    omega (arith, ints, term, rest)

own_positive : (v own : List ℤ) → length v ≡ length own → All IsPositive v → All IsNotNegative own → Any IsAboveZero own → pos 1 ≤ℤ dot v own
own_positive v [] len values weights (k, w, within, at, strict) = absurd (omega (arith, within))
own_positive [] (w ∷ own) len values weights strict = absurd (omega arith)
own_positive (x ∷ v) (w ∷ own) len values weights strict =
    let x_low = All-head IsPositive x v values in
    let w_low = All-head IsNotNegative w own weights in
    let v_low = All-tail IsPositive x v values in
    let own_low = All-tail IsNotNegative w own weights in
    elim (Any-cases IsAboveZero w own strict) [
      | inl now ↦ omega (arith, ints, mul_positive x w x_low (omega (arith, ints, now)), own_nonneg v own v_low own_low)
      | inr later ↦
          let rest = own_positive v own (omega arith) v_low own_low later in
          omega (arith, ints, mul_nonneg x w (omega (arith, ints, x_low)) w_low, rest)
    ]

own_zero : (v own : List ℤ) → All IsNotNegative own → ¬ Any IsAboveZero own → dot v own ≡ pos 0
own_zero [] own weights loose = refl
own_zero (x ∷ v) [] weights loose = refl
own_zero (x ∷ v) (w ∷ own) weights loose =
    let w_zero : x *ℤ w ≡ pos 0 = *ℤ_comm x w ∙ nothing w x (All-head IsNotNegative w own weights) (λ now. loose (Any-here IsAboveZero w own now)) in
    let rest = own_zero v own (All-tail IsNotNegative w own weights) (λ later. loose (Any-there IsAboveZero w own later)) in
    omega (arith, ints, w_zero, rest)

-- ---- the law
All-front : {X : Type 0} (P : X → Type 0) (xs more : List X) → All P (xs ++ more) → All P xs
All-front P xs more h = All-same P xs (take (length xs) (xs ++ more)) (sym (take-append_seam xs more)) (All-take P (length xs) (xs ++ more) h)

module _ (levels : List ℕ) (answers : List Answer) (c : Combination) (v : List ℤ) (vector : IsValueVector levels v) (meets : All (Meets levels v) answers) where
  all_met : (pair : Pair) (side : Side) → Proves levels answers c pair side → All (IsMet levels answers v) c.answers
  all_met pair side proof k d within = record {
    may = proof.weights k d within;
    favours = Favours-from_cite levels answers v (get_or c.answers k d) meets (proof.cited k d within);
  }

  multiple : (pair : Pair) (side : Side) → Proves levels answers c pair side
      → c.scale *ℤ dot v (gain levels pair side) ≡ dot v (total levels answers c.increments c.answers)
  multiple pair side proof = dot_of_sums levels answers c pair side v vector.len proof.sums

  total_positive : (pair : Pair) (side : Side) → Proves levels answers c pair side → HasStrict answers c
      → pos 1 ≤ℤ dot v (total levels answers c.increments c.answers)
  total_positive pair side proof strict =
      let met = all_met pair side proof in
      elim strict [
        | inl own ↦
            omega (arith, ints, total_at_least levels answers v c.increments c.answers met, own_positive v c.increments (vector.len ∙ sym proof.len) vector.positive proof.own own)
        | inr cited ↦ omega (arith, ints, total_more levels answers v c.increments c.answers met cited, own_nonneg v c.increments vector.positive proof.own)
      ]

  total_zero : (pair : Pair) (side : Side) → Proves levels answers c pair side → ¬ HasStrict answers c
      → dot v (total levels answers c.increments c.answers) ≡ pos 0
  total_zero pair side proof loose =
      total_same levels answers v c.increments c.answers (all_met pair side proof) (λ cited. loose (inr cited)) ∙ own_zero v c.increments proof.own (λ own. loose (inl own))

  favoured : (pair : Pair) (side : Side) → Proves levels answers c pair side → Favours side (dot v (gain levels pair side))
  favoured pair Left proof = positive_from_multiple c.scale _ proof.scale (rw (multiple pair Left proof) (total_positive pair Left proof proof.strict))
  favoured pair Right proof = positive_from_multiple c.scale _ proof.scale (rw (multiple pair Right proof) (total_positive pair Right proof proof.strict))
  favoured pair Equal proof = zero_from_multiple c.scale _ proof.scale (multiple pair Equal proof ∙ total_zero pair Equal proof proof.strict)

pub proved_is_ranked_lem : ProvedIsRanked
proved_is_ranked_lem levels answers more c pair side proof v meets =
    favours_ranks levels v pair side (favoured levels answers c v meets.vector (All-front (Meets levels v) answers more meets.each) pair side proof)
