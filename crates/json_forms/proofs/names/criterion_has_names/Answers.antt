use Rattle.std.proofs.Common.{◌∙◌, ap, sym, string_bytes}
use Rattle.std.specs.List.{list_all}
use Rattle.json_forms.specs.Definitions.{is_name}
use Rattle.json_forms.proofs.NameLemmas.{all_seen, and_true}
use Rattle.json_forms.proofs.names.criterion_has_names.Goals as goal

pub returns-then-is_name : goal.returns-then-is_name
returns-then-is_name c =
    and_true _ _ _ (sym c.is_name.ensures ∙ c.if-is_name.true)
    (c.are_names.ensures ∙ ap (list_all (λ text. is_name (string_bytes text))) c.as_slice.ensures.value ∙ all_seen is_name string_bytes c.args.criterion.now.1.items)
