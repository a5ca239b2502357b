use Rattle.std.proofs.Common.{refl}
use Rattle.text_fields.proofs.NumberLaws.{certificates_field}
use Rattle.text_fields.proofs.ListLaws.{list_field}
use Rattle.text_fields.proofs.laws.certificates_are_field.Goals as goal

pub returns : goal.returns
returns c = λ room. list_field _ _ _ _ certificates_field (λ _. refl) room
