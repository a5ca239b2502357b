use Rattle.std.proofs.Common.{◌≡◌, ◌∙◌, ◌<◌, ◌≤◌, ◌+◌, ◌-◌, ◌*◌, ◌^◌, ℕ, ℤ, pos, unsigned_abs, List, length, replicate, to_z, of_z, sym, ap, subst, arith}
use Rattle.std.proofs.lemmas.List.{length-replicate}
use Rattle.std.proofs.lemmas.Option.{get_or_from_slice_get}
use Rattle.std.proofs.lemmas.Int.{to_z-of_z}
use Rattle.std.specs.Int.{w8, w128}
use Rattle.row_laws.proofs.Integers.{read_back}
use Rattle.row_laws.specs.Rows.{entry}
use Rattle.fraction_free.proofs.SlackLine.{zeros_at, first_line, next_line, last_line, added_size, factor_size}
use Rattle.fraction_free.proofs.slack_line.slack_line.Goals as goal

zero_size : (width at : ℕ) (zeros : List ℤ) → zeros ≡ replicate width (pos 0) → unsigned_abs (entry zeros at) ≤ 0
zero_size width at zeros is = subst (λ (xs : List ℤ). unsigned_abs (entry xs at) ≤ 0) (sym is) (subst (λ (n : ℤ). unsigned_abs n ≤ 0) (sym (zeros_at width at)) (omega arith))

pub loop-variable-init : goal.loop-variable-init
loop-variable-init c =
    let scale = to_z w128 (of_z w128 c.args.scale) in
    let scale_is : scale ≡ c.args.scale = read_back w128 c.args.scale (omega (arith, c.requires.can.scale_size)) in
    let k_is : to_z w128 (of_z w128 c.constant_of-constant.result) ≡ c.constant_of-constant.result = read_back w128 c.constant_of-constant.result (omega (arith, c.constant_of-constant.ensures.size)) in
    let added = c.add_variable.ensures in
    record {
      len = added.len ∙ ap length c.zeros-line.ensures ∙ length-replicate (c.from-width.result + 1) (pos 0) ∙ ap (λ n. n + 1) c.from-width.ensures;
      sizes = λ at.
          let most = added_size (to_z w128 (of_z w128 c.constant_of-constant.result)) c.zeros-line.result _ c.add_variable.new.line at 25 0 added
          (subst (λ (z : ℤ). unsigned_abs z ≤ 25) (sym k_is) c.constant_of-constant.ensures.size)
          (zero_size (c.from-width.result + 1) at c.zeros-line.result c.zeros-line.ensures)
          (factor_size scale c.args.lines.now _ _ at (subst (λ (z : ℤ). unsigned_abs z < 2 ^ 89) (sym scale_is) c.requires.can.scale_size) c.requires.can.sizes) in
          omega arith;
      combination = λ loaded t.
          first_line c.args.columns loaded scale c.args.places.now.order c.args.lines.now c.args.coefficients.now c.zeros-line.result c.add_variable.new.line
          (to_z w128 (of_z w128 c.constant_of-constant.result)) _ (c.from-width.result + 1) (c.from-width.result + 1 - 1)
          c.zeros-line.ensures (ap (λ n. n + 1) c.from-width.ensures) (omega (arith, c.from-width.ensures)) (k_is ∙ c.constant_of-constant.ensures.value) added t;
    }

pub loop-variable-preserved : goal.loop-variable-preserved
loop-variable-preserved c =
    let v = c.loop-variable.invariant in
    let scale = to_z w128 (of_z w128 c.args.scale) in
    let scale_is : scale ≡ c.args.scale = read_back w128 c.args.scale (omega (arith, c.requires.can.scale_size)) in
    let added = c.add_variable-in-loop-variable.ensures in
    let item_is : c.from-coefficient.result ≡ c.item.result = c.from-coefficient.ensures ∙ read_back w8 c.item.result (omega (arith, c.item.ensures.range)) in
    let k_is : to_z w128 (of_z w128 c.from-coefficient.result) ≡ c.item.result = ap (λ (z : ℤ). to_z w128 (of_z w128 z)) item_is ∙ read_back w128 c.item.result (omega (arith, c.item.ensures.range)) in
    let back : c.loop-variable.variable + 1 - 1 ≡ c.loop-variable.variable - 1 + 1 = omega arith in
    let variable : c.loop-variable.variable ≡ c.loop-variable.variable - 1 + 1 = omega arith in
    record {
      len = added.len ∙ v.len;
      sizes = λ at.
          let most = added_size (to_z w128 (of_z w128 c.from-coefficient.result)) c.loop-variable.line _ c.add_variable-in-loop-variable.new.line at 1 ((25 + c.loop-variable.variable) * 2 ^ 89) added
          (subst (λ (z : ℤ). unsigned_abs z ≤ 1) (sym k_is) c.item.ensures.range) (v.sizes at)
          (factor_size scale c.args.lines.now _ _ at (subst (λ (z : ℤ). unsigned_abs z < 2 ^ 89) (sym scale_is) c.requires.can.scale_size) c.requires.can.sizes) in
          omega arith;
      combination = λ loaded t.
          next_line c.args.columns loaded scale c.args.places.now.order c.args.lines.now c.args.coefficients.now c.loop-variable.line c.add_variable-in-loop-variable.new.line
          (to_z w128 (of_z w128 c.from-coefficient.result)) _ (c.loop-variable.variable - 1) (c.loop-variable.variable + 1 - 1) c.place-place.result
          v.len (c.place-place.ensures.value ∙ variable) c.place-place.ensures.below (omega (arith, c.from-width.ensures))
          (k_is ∙ sym (get_or_from_slice_get c.args.coefficients.now (c.loop-variable.variable - 1) c.item.result (pos 0) c.item.ensures.value)) back added t (v.combination loaded t);
    }

pub returns-clause-line : goal.returns-clause-line
returns-clause-line c =
    let v = c.loop-variable.invariant in
    λ loaded k.
    last_line c.args.columns loaded c.args.scale (to_z w128 (of_z w128 c.args.scale)) c.args.places.now.order c.args.lines.now c.args.coefficients.now c.loop-variable.line c.args.least (to_z w8 (of_z w8 c.args.least))
    (c.loop-variable.variable - 1) (read_back w128 c.args.scale (omega (arith, c.requires.can.scale_size))) (to_z-of_z w8 c.args.least c.ranges.least)
    (omega (arith, c.from-width.ensures)) c.requires.len (v.combination loaded) k

pub returns-clause-row : goal.returns-clause-row
returns-clause-row c = record { coefficients = c.constant_of-constant.ensures.range; len = c.requires.len; least = c.requires.least }
