use Rattle.std.proofs.Common.{◌∙◌, refl}
use Rattle.pair_enumeration.proofs.ListLemmas.{listed_by}
use Rattle.pair_enumeration.proofs.classes.Classes.list.Goals as goal

pub invariant_of-result : goal.invariant_of-result
invariant_of-result c =
    listed_by c.args.model.now c.as_slice.result.now c.from-limit.result c.in_ok-pairs.pairs.items c.degree.ensures.model
    (c.as_slice.ensures.value ∙ c.level_counts-counts.ensures) (c.from-limit.ensures ∙ c.degree.ensures.value) c.in_ok-pairs.ensures

pub returns : goal.returns
returns c = (
  refl,
  listed_by c.args.model.now c.as_slice.result.now c.from-limit.result c.in_ok-pairs.pairs.items c.degree.ensures.model
      (c.as_slice.ensures.value ∙ c.level_counts-counts.ensures) (c.from-limit.ensures ∙ c.degree.ensures.value) c.in_ok-pairs.ensures,
)
