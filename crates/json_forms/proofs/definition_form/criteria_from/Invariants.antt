use Rattle.std.proofs.Common.{map}
use Rattle.json_forms.specs.DefinitionForm.{criterion_in}
use Rattle.json_forms.specs.EntryViews.{criterion_view}
use Rattle.json_forms.proofs.EachLemmas.{IsReadTo}
use Rattle.json_forms.proofs.definition_form.criteria_from.Given as goal

-- The items so far were read.
abbrev pub invariant-loop-item : goal.invariant-loop-item
invariant-loop-item l = IsReadTo criterion_in l.item-items l.item-index (map criterion_view l.found.items)
