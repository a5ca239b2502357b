use Rattle.std.proofs.Common.{◌≡◌, ℕ, ◌+◌, ◌-◌, ℤ, Option, Some, to_z, of_z, sym, subst, ◌∙◌, arith}
use mir.Syntax.{w128}
use Rattle.std.proofs.lemmas.Int.{ints}
use Rattle.simplex.specs.Equation.{variable_at, weight_at}
use Rattle.simplex.proofs.Sizes.{kept}
use Rattle.simplex.proofs.NextSlacks.{NextSoFar, next_found, next_passed, next_done}
use Rattle.simplex.proofs.clash.next_slack.Goals as goal
use Rattle.simplex.proofs.clash.next_slack.Goals.{then-above-variable+then-weight-gt0+then-variable-least, else-above-variable, else-above-variable-via-then-above-variable+then-weight-gt0+else-variable-least, else-above-variable-via-then-above-variable+else-weight-gt0, else-above-variable-via-else-above-variable}

pub loop-place-preserved : goal.loop-place-preserved
loop-place-preserved c =
    let variable : c.weighted_variable-variable.result.0 ≡ variable_at c.args.work.now (c.args.row - 1) c.loop-place.place = c.weighted_variable-variable.ensures.variable in
    let weight : to_z w128 (of_z w128 c.weighted_variable-variable.result.1) ≡ weight_at c.args.work.now (c.args.row - 1) c.loop-place.place =
    kept c.weighted_variable-variable.result.1 (let s = c.weighted_variable-variable.ensures.size in omega arith) ∙ c.weighted_variable-variable.ensures.weight in
    elim c.if-above-variable.branch [
      | then-above-variable+then-weight-gt0+then-variable-least w ↦
          subst (λ (f : Option (ℕ × ℤ)). NextSoFar c.args.work.now (c.args.row - 1) c.args.above (c.loop-place.place + 1) c.if-above-variable.least f) (sym w.found-is)
          (subst (λ (l : ℕ). NextSoFar c.args.work.now (c.args.row - 1) c.args.above (c.loop-place.place + 1) l (Some (c.weighted_variable-variable.result.0, to_z w128 (of_z w128 c.weighted_variable-variable.result.1)))) (sym w.least-is)
          (next_found c.args.work.now (c.args.row - 1) c.args.above c.loop-place.place c.loop-place.least c.weighted_variable-variable.result.0 (to_z w128 (of_z w128 c.weighted_variable-variable.result.1)) c.loop-place.found variable weight
          w.if-above-variable.true (let t = w.if-weight-gt0.true in omega (arith, ints, t)) w.if-variable-least.true c.loop-place.invariant))
      | else-above-variable w ↦
          subst (λ (f : Option (ℕ × ℤ)). NextSoFar c.args.work.now (c.args.row - 1) c.args.above (c.loop-place.place + 1) c.if-above-variable.least f) (sym w.found-is)
          (subst (λ (l : ℕ). NextSoFar c.args.work.now (c.args.row - 1) c.args.above (c.loop-place.place + 1) l c.loop-place.found) (sym w.least-is)
          (next_passed c.args.work.now (c.args.row - 1) c.args.above c.loop-place.place c.loop-place.least c.loop-place.found
          (λ a b.
          elim w.else-above-variable.branch [
            | else-above-variable-via-then-above-variable+then-weight-gt0+else-variable-least v ↦ omega (arith, v.if-variable-least.false, variable)
            | else-above-variable-via-then-above-variable+else-weight-gt0 v ↦ absurd (let f = v.if-weight-gt0.false in omega (arith, ints, f, weight, b))
            | else-above-variable-via-else-above-variable v ↦ absurd (omega (arith, v.if-above-variable.false, variable, a))
          ])
          c.loop-place.invariant))
    ]

pub returns : goal.returns
returns c = next_done c.args.work.now (c.args.row - 1) c.args.above c.loop-place.place c.loop-place.least c.loop-place.found c.cols-place-end.ensures.dictionary (omega arith) (omega (arith, c.cols-place-end.ensures.value)) c.loop-place.invariant
