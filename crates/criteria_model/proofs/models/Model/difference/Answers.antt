use Rattle.std.proofs.Common.{◌≡◌, ◌∙◌, sym, ap, subst, take, length}
use Rattle.criteria_model.specs.Lists.{IsRow}
use Rattle.criteria_model.proofs.LevelLemmas.{minus-has-fits}
use Rattle.criteria_model.proofs.models.Model.difference.Goals as goal

pub of-requires : goal.of-requires
of-requires c =
    let levels : c.self.inside.counts ≡ c.args.self.now.levels = ap (λ m. m.levels) c.self.view_is in
    let m = c.self.invariant in
    let written = rw (c.as_slice.ensures.value, c.as_slice-2.ensures.value, c.as_slice-3.ensures.value) at c.differences-cells.ensures in
    let cells = ap (λ n. take n c.differences-cells.result) (c.from.ensures ∙ m.1) ∙ written in
    subst IsRow (sym cells)
    (minus-has-fits c.self.inside.counts c.args.high.now c.args.low.now m.0.some m.0.two_levels m.0.few_increments
    (c.requires.high_len ∙ sym (ap length levels)) (c.requires.low_len ∙ sym (ap length levels)))
