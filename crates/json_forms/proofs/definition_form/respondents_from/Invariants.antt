use Rattle.std.proofs.Common.{map}
use Rattle.json_forms.specs.DefinitionForm.{respondent_in}
use Rattle.json_forms.specs.EntryViews.{respondent_view}
use Rattle.json_forms.proofs.EachLemmas.{IsReadTo}
use Rattle.json_forms.proofs.definition_form.respondents_from.Given as goal

-- The items so far were read.
abbrev pub invariant-loop-item : goal.invariant-loop-item
invariant-loop-item l = IsReadTo respondent_in l.item-items l.item-index (map respondent_view l.found.items)
