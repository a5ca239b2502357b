use Rattle.std.proofs.Common.{◌≡◌, ◌≤◌, length, Some, ◌∙◌, ap, sym, arith}
use Rattle.std.proofs.lemmas.List.{take_at, length-take-le}
use Rattle.json_forms.proofs.VectorLemmas.{positives-as_many, positives-others}
use Rattle.json_forms.proofs.vectors.vector_of_items.Goals as goal

pub returns-then-items-count-clause-exact : goal.returns-then-items-count-clause-exact
returns-then-items-count-clause-exact c = positives-others c.args.items.now _ (λ same. c.if-items-count.true (same ∙ sym (c.from-count.ensures ∙ c.increments.ensures.value)))

pub returns-clause-exact : goal.returns-clause-exact
returns-clause-exact c =
    let count = c.from-count.ensures ∙ c.increments.ensures.value in
    let within : c.from-count.result ≤ 24 = omega (arith, count, c.increments.ensures.model.few_increments) in
    let len : length c.read_positives.new.cells ≡ c.from-count.result = c.in_ok-read_positives.ensures.len ∙ length-take-le c.from-count.result _ within in
    ap Some (c.of.ensures ∙ take_at c.read_positives.new.cells _ c.from-count.result len)
    ∙ sym (positives-as_many c.args.items.now _ (c.if-items-count.false ∙ count) ∙ c.in_ok-read_positives.ensures.exact)
