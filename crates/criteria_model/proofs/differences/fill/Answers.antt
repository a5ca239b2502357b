use Rattle.std.proofs.Common.{◌≡◌, ◌+◌, ◌∙◌, ap, sym, length, arith, ◌++◌, ◌∷◌, [], SFits, to_z-of_z, w8, rules, ℕ}
use Rattle.std.proofs.lemmas.List.{take_more_set, take_all}
use Rattle.row_laws.specs.Rows.{minus}
use Rattle.criteria_model.specs.Worth.{has_on}
use Rattle.criteria_model.proofs.LevelLemmas.{minus-has_on-more}
use Rattle.criteria_model.proofs.differences.fill.Goals as goal

pub loop-place-preserved : goal.loop-place-preserved
loop-place-preserved c =
    let fits : SFits w8 c.difference_at.result = search rules in
    rw (to_z-of_z fits)
    (take_more_set c.loop-place.cells c.loop-place.place c.difference_at.result (omega arith)
    ∙ ap (λ r. r ++ c.difference_at.result ∷ []) c.loop-place.invariant
    ∙ ap (λ x. minus (has_on (c.loop-place.place + 1) c.args.high) (has_on (c.loop-place.place + 1) c.args.low) ++ x ∷ []) c.difference_at.ensures
    ∙ sym (minus-has_on-more c.loop-place.place c.args.high c.args.low))

pub returns : goal.returns
returns c =
    let e : c.loop-place.place ≡ length c.args.cells.now = omega arith in
    sym (take_all c.loop-place.place c.loop-place.cells (omega arith))
    ∙ c.loop-place.invariant
    ∙ ap (λ (n : ℕ). minus (has_on (n + 1) c.args.high) (has_on (n + 1) c.args.low)) e
