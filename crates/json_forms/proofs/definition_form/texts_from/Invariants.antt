use Rattle.std.proofs.Common.{map, string_bytes}
use Rattle.serde_json.specs.Find.{as_str}
use Rattle.json_forms.proofs.EachLemmas.{IsReadTo}
use Rattle.json_forms.proofs.definition_form.texts_from.Given as goal

-- The items so far were read.
abbrev pub invariant-loop-item : goal.invariant-loop-item
invariant-loop-item l = IsReadTo as_str l.item-items l.item-index (map string_bytes l.found.items)
