use Rattle.std.proofs.Common.{◌≡◌, map, ◌∙◌, ap, sym}
use Rattle.std.specs.List.{list_any}
use Rattle.std.specs.Vec.Iter.{into_iter_items}
use Rattle.json_forms.specs.DefinitionViews.{CriterionView}
use Rattle.json_forms.specs.Definitions.{repeats}
use Rattle.json_forms.specs.EntryViews.{criterion_view}
use Rattle.json_forms.proofs.RepeatLemmas.{criteria_end, nothing_left, ok_map}
use Rattle.json_forms.proofs.by_name.criteria_by_name.Goals as goal

pub returns : goal.returns
returns c =
    let at = c.loop-name in
    let all : at.yielded ≡ c.args.criteria.items =
    nothing_left at.yielded (into_iter_items at.name-iterator) c.args.criteria.items (sym at.invariant.len ∙ c.in-None.ensures.steps.0) (at.invariant.whole ∙ c.into_iter-name-iterator.ensures.into_iter_gives.0) in
    ok_map c.by_name.result _ _
    (λ found h. criteria_end (λ m. m.entries) found at.kept.items (map criterion_view c.args.criteria.items) (at.invariant.kept ∙ ap (map criterion_view) all)
    (ap (λ items. list_any (λ (criterion : CriterionView). repeats criterion.levels) (map criterion_view items)) (sym all) ∙ at.invariant.once) h)
    c.by_name.ensures
