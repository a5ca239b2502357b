use Rattle.std.proofs.Common.{◌≡◌, ◌-◌, ◌<◌, ◌∷◌, ◌++◌, ℤ, ◌*ℤ◌, List, length, map, get_or, unsigned_abs, to_z, of_z, refl, sym, ap, subst, ◌∙◌, arith}
use mir.Syntax.{w128}
use lib.Signed.{quot_z}
use Rattle.std.specs.Prelude.{All}
use Rattle.std.specs.Int.{◌∣◌}
use Rattle.std.proofs.lemmas.List.Elements.{All-head}
use Rattle.criteria_model.specs.declared.pairs.Answer.{Answer}
use Rattle.row_laws.specs.Rows.{times}
use Rattle.simplex.specs.declared.row_weights.RowWeight.{RowWeight}
use Rattle.simplex.specs.Weights.{IsRowWeight, no_weight}
use Rattle.simplex.proofs.Sizes.{kept}
use Rattle.simplex.proofs.Quotients.{quotient_is}
use Rattle.decider.specs.Combining.{IsGreatestDivisor, times_cites, EndsWithTried}
use Rattle.decider.proofs.Combinations.{AreDivided, front_are, front_within, divides_increments, divides_cites, divided_has_no_divisor, divided_scale_small, divided_combines}
use Rattle.decider.proofs.combination.combination_of.Goals as goal
use Rattle.decider.proofs.combination.combination_of.Goals.{After-divided_cites}

ends : (rows clashed : List RowWeight) (answers : List Answer) → rows ≡ clashed → EndsWithTried answers clashed → EndsWithTried answers rows
ends rows clashed answers e h = subst (EndsWithTried answers) (sym e) h

pub cited-cites-requires-clause-rows : goal.cited-cites-requires-clause-rows
cited-cites-requires-clause-rows c = front_are c.as_slice-weighted.result.now (length c.as_slice-weighted.result.now - 1) (omega arith) c.as_slice-weighted.ensures.range

pub cited-cites-requires-clause-within : goal.cited-cites-requires-clause-within
cited-cites-requires-clause-within c =
    front_within c.args.answers.now.answers c.as_slice-weighted.result.now c.as_slice-weighted.ensures.range
    (ends c.as_slice-weighted.result.now c.args.clash.now.rows c.args.answers.now.answers c.as_slice-weighted.ensures.value c.requires.tried)

pub divided-requires-clause-divides : goal.divided-requires-clause-divides
divided-requires-clause-divides c =
    let g : to_z w128 (of_z w128 c.divisor_of-divisor.result) ≡ c.divisor_of-divisor.result = kept c.divisor_of-divisor.result c.divisor_of-divisor.ensures.size in
    subst (λ (n : ℤ). All (λ x. unsigned_abs n ∣ unsigned_abs x) c.as_slice.result.now) (sym g)
    (subst (λ (l : List ℤ). All (λ x. unsigned_abs c.divisor_of-divisor.result ∣ unsigned_abs x) l) (sym c.as_slice.ensures.value)
    (divides_increments (unsigned_abs c.divisor_of-divisor.result) _ c.args.clash.now.increments c.cited-cites.result c.divisor_of-divisor.ensures.divides))

pub divided_cites-requires-clause-divides : goal.divided_cites-requires-clause-divides
divided_cites-requires-clause-divides c =
    let g : to_z w128 (of_z w128 c.divisor_of-divisor.result) ≡ c.divisor_of-divisor.result = kept c.divisor_of-divisor.result c.divisor_of-divisor.ensures.size in
    subst (λ (n : ℤ). All (λ cite. unsigned_abs n ∣ unsigned_abs cite.weight) c.cited-cites.result) (sym g)
    (divides_cites (unsigned_abs c.divisor_of-divisor.result) _ c.args.clash.now.increments c.cited-cites.result c.divisor_of-divisor.ensures.divides)

module _ (c : After-divided_cites) where
  abbrev tried : ℤ
  tried = (get_or c.as_slice-weighted.result.now (length c.as_slice-weighted.result.now - 1) no_weight).weight

  last : length c.as_slice-weighted.result.now - 1 < length c.as_slice-weighted.result.now
  last = let s = (ends c.as_slice-weighted.result.now c.args.clash.now.rows c.args.answers.now.answers c.as_slice-weighted.ensures.value c.requires.tried).some in omega arith

  tried_is : IsRowWeight (get_or c.as_slice-weighted.result.now (length c.as_slice-weighted.result.now - 1) no_weight)
  tried_is = c.as_slice-weighted.ensures.range.each (length c.as_slice-weighted.result.now - 1) no_weight last

  tried_kept : to_z w128 (of_z w128 tried) ≡ tried
  tried_kept = kept tried (let s = tried_is.within in omega arith)

  divisor_kept : to_z w128 (of_z w128 c.divisor_of-divisor.result) ≡ c.divisor_of-divisor.result
  divisor_kept = kept c.divisor_of-divisor.result c.divisor_of-divisor.ensures.size

  greatest : IsGreatestDivisor (tried ∷ c.args.clash.now.increments ++ map (λ cite. cite.weight) c.cited-cites.result) c.divisor_of-divisor.result
  greatest = subst (λ (n : ℤ). IsGreatestDivisor (n ∷ c.args.clash.now.increments ++ map (λ cite. cite.weight) c.cited-cites.result) c.divisor_of-divisor.result) tried_kept
      c.divisor_of-divisor.ensures

  abbrev scale : ℤ
  scale = to_z w128 (of_z w128 (quot_z (to_z w128 (of_z w128 tried)) (to_z w128 (of_z w128 c.divisor_of-divisor.result))))

  are : AreDivided tried c.args.clash.now.increments c.cited-cites.result c.divisor_of-divisor.result scale c.divided.result c.divided_cites.result
  are = record {
    greatest = greatest;
    scale_is = ap (λ (n : ℤ). n *ℤ scale) (sym divisor_kept)
        ∙ quotient_is tried c.divisor_of-divisor.result tried_is.within greatest.positive greatest.size
        (All-head (λ x. unsigned_abs c.divisor_of-divisor.result ∣ unsigned_abs x) tried (c.args.clash.now.increments ++ map (λ cite. cite.weight) c.cited-cites.result) greatest.divides);
    own_are = sym c.as_slice.ensures.value ∙ c.divided.ensures ∙ ap (λ (n : ℤ). times n c.divided.result) divisor_kept;
    cites_are = c.divided_cites.ensures ∙ ap (λ (n : ℤ). times_cites n c.divided_cites.result) divisor_kept;
  }

pub returns-clause-combines : goal.returns-clause-combines
returns-clause-combines c =
    divided_combines c.args.answers.now.answers c.args.clash.now c.as_slice-weighted.result.now c.args.clash.now.increments c.cited-cites.result c.divisor_of-divisor.result
    (scale c) c.divided.result c.divided_cites.result
    c.as_slice-weighted.ensures.value refl c.cited-cites.ensures (are c)

pub returns-clause-reduced : goal.returns-clause-reduced
returns-clause-reduced c =
    divided_has_no_divisor (tried c) c.args.clash.now.increments c.cited-cites.result c.divisor_of-divisor.result (scale c) c.divided.result c.divided_cites.result (are c)

pub returns-clause-scale : goal.returns-clause-scale
returns-clause-scale c =
    divided_scale_small (tried c) c.args.clash.now.increments c.cited-cites.result c.divisor_of-divisor.result (scale c) c.divided.result c.divided_cites.result (are c) (tried_is c).within
