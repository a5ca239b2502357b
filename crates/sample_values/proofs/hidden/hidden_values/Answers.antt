use Rattle.std.proofs.Common.{rules, ◌≡◌, List, length, ℤ, pos, ◌≤ℤ◌, sym, ap, subst, ◌∙◌, arith}
use Rattle.std.specs.Prelude.{All}
use Rattle.std.proofs.lemmas.Int.{to_z-of_z}
use Rattle.std.specs.Int.{w128}
use Rattle.std.proofs.lemmas.List.FromFn.{length-map-range_with_len}
use Rattle.criteria_model.specs.Worth.{increments}
use Rattle.sample_values.specs.Draws.{hidden_value, hidden_vector}
use Rattle.sample_values.proofs.ValueLemmas.{next_values, values_positive}
use Rattle.sample_values.proofs.hidden.hidden_values.Goals as goal

pub loop-place-preserved : goal.loop-place-preserved
loop-place-preserved c =
    next_values _ _ _ _ _ _ c.loop-place.invariant
    (omega (arith, c.loop-place-test.true, c.from-count.ensures, c.increments.ensures.value, c.increments.ensures.model.few_increments)) c.next_value.ensures.state
    (to_z-of_z w128 c.next_value.result (search rules) ∙ c.next_value.ensures.value)

pub returns-clause-positive : goal.returns-clause-positive
returns-clause-positive c =
    let count = increments c.args.model.now.levels in
    let value : c.of.result ≡ hidden_vector c.args.seed count = search rules in
    record {
      len = ap (λ (l : List ℤ). length l) value ∙ length-map-range_with_len (hidden_value c.args.seed) 1 count;
      positive = subst (λ (l : List ℤ). All (λ x. pos 1 ≤ℤ x) l) (sym value) (values_positive c.args.seed count);
    }
