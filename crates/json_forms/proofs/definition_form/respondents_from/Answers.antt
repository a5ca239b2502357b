use Rattle.std.proofs.Common.{Some, None, map, option_map, ap, sym, ◌∙◌}
use Rattle.serde_json.specs.View.{view}
use Rattle.json_forms.specs.DefinitionForm.{respondent_in}
use Rattle.json_forms.specs.EntryViews.{respondent_view}
use Rattle.json_forms.proofs.EachLemmas.{IsReadTo-start, IsReadTo-push, IsReadTo-none, IsReadTo-end, array_read}
use Rattle.json_forms.proofs.definition_form.respondents_from.Goals as goal

pub loop-item-init : goal.loop-item-init
loop-item-init c = rw c.new-found.ensures.items (IsReadTo-start respondent_in c.deref-item-items.result.now)

pub returns-in_default-2 : goal.returns-in_default-2
returns-in_default-2 c =
    let vs = c.deref-item-items.result.now in
    array_read respondent_in (view c.args.value.now) vs c.in-Some.items.now.items None c.in-Some.ensures c.deref-item-items.ensures.value
    (IsReadTo-none respondent_in vs c.loop-item.item-index (map respondent_view c.loop-item.found.items) c.item-item.result c.loop-item-test.true c.item-item.is
    (sym c.in_ok-respondent.ensures ∙ ap (option_map respondent_view) c.in_default-2.is) c.loop-item.invariant)

pub loop-item-preserved : goal.loop-item-preserved
loop-item-preserved c =
    let vs = c.deref-item-items.result.now in
    IsReadTo-push respondent_in respondent_view vs c.loop-item.item-index c.loop-item.found.items _ c.in-Some-2.respondent c.item-item.result c.loop-item-test.true c.item-item.is
    (sym c.in_ok-respondent.ensures ∙ ap (option_map respondent_view) c.in-Some-2.is) c.in_ok-push.ensures.items c.loop-item.invariant

pub returns : goal.returns
returns c =
    let vs = c.deref-item-items.result.now in
    array_read respondent_in (view c.args.value.now) vs c.in-Some.items.now.items (Some (map respondent_view c.loop-item.found.items)) c.in-Some.ensures c.deref-item-items.ensures.value
    (IsReadTo-end respondent_in vs c.loop-item.item-index (map respondent_view c.loop-item.found.items) c.loop-item-test.false c.loop-item.invariant)
