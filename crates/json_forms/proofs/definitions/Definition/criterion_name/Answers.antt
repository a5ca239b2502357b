use Rattle.std.proofs.Common.{Some, ◌∙◌, ap, sym, option_map}
use Rattle.json_forms.specs.DefinitionViews.{CriterionView}
use Rattle.json_forms.proofs.NumberedLemmas.{criterion_at}
use Rattle.json_forms.proofs.definitions.Definition.criterion_name.Goals as goal

pub returns : goal.returns
returns c =
    let at = criterion_at c.self.inside.criteria.entries c.args.criterion c.from.result (c.in-Some.name.now, c.in-Some.field-0-1.now) c.from.ensures c.in-Some.ensures.entry c.requires.0 in
    rw (← c.self.view_is) (ap (option_map (λ (criterion : CriterionView). criterion.name)) at ∙ ap Some (sym c.as_bytes.ensures.value))
