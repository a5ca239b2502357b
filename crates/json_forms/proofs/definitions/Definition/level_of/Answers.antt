use Rattle.std.proofs.Common.{Some, None, option_and_then, ◌∙◌, ap, sym, arith}
use Rattle.json_forms.specs.DefinitionViews.{CriterionView}
use Rattle.json_forms.specs.Definitions.{number_of}
use Rattle.json_forms.proofs.NumberedLemmas.{criterion_at, level-number, level-none, level-small}
use Rattle.json_forms.proofs.definitions.Definition.level_of.Goals as goal

pub returns-in_default : goal.returns-in_default
returns-in_default c =
    let at = criterion_at c.self.inside.criteria.entries c.args.criterion c.from.result (c.in_ok-levels.field-0-0.now, c.in_ok-levels.levels.now)
    c.from.ensures c.in_ok-levels.ensures.entry c.requires.0 in
    rw (← c.self.view_is) (sym (ap (option_and_then (λ (criterion : CriterionView). number_of c.args.name.now criterion.levels)) at
    ∙ level-none c.args.name.now c.in_ok-levels.levels.now.keys c.in_default.ensures.cases.0))

pub returns-in_err-place : goal.returns-in_err-place
returns-in_err-place c =
    let at = criterion_at c.self.inside.criteria.entries c.args.criterion c.from.result (c.in_ok-levels.field-0-0.now, c.in_ok-levels.levels.now)
    c.from.ensures c.in_ok-levels.ensures.entry c.requires.0 in
    c.from_residual-in_err-place.ensures
    ∙ rw (← c.self.view_is, ← c.in-Ok.ensures.cases.0) (sym (ap (option_and_then (λ (criterion : CriterionView). number_of c.in-Ok.name.now criterion.levels)) at
    ∙ sym (level-number c.in-Ok.name.now c.in_ok-levels.levels.now.keys None c.in_err-place.ensures.index)))

pub overflow_cast-result : goal.overflow_cast-result
overflow_cast-result c =
    let small = level-small c.self.inside.criteria.entries c.args.criterion c.from.result (c.in_ok-levels.field-0-0.now, c.in_ok-levels.levels.now) c.from.ensures c.in_ok-levels.ensures.entry
    c.self.inside.model.levels c.in_ok-place.place c.self.invariant.0 c.self.invariant.1 c.in_ok-place.ensures.within in
    omega (arith, small)

pub overflow_add-result : goal.overflow_add-result
overflow_add-result c =
    let small = level-small c.self.inside.criteria.entries c.args.criterion c.from.result (c.in_ok-levels.field-0-0.now, c.in_ok-levels.levels.now) c.from.ensures c.in_ok-levels.ensures.entry
    c.self.inside.model.levels c.in_ok-place.place c.self.invariant.0 c.self.invariant.1 c.in_ok-place.ensures.within in
    omega (arith, small)

pub returns : goal.returns
returns c =
    let at = criterion_at c.self.inside.criteria.entries c.args.criterion c.from.result (c.in_ok-levels.field-0-0.now, c.in_ok-levels.levels.now)
    c.from.ensures c.in_ok-levels.ensures.entry c.requires.0 in
    rw (← c.self.view_is, ← c.in-Ok.ensures.cases.0) (sym (ap (option_and_then (λ (criterion : CriterionView). number_of c.in-Ok.name.now criterion.levels)) at
    ∙ sym (level-number c.in-Ok.name.now c.in_ok-levels.levels.now.keys (Some c.in_ok-place.place) c.in_ok-place.ensures.index)))
