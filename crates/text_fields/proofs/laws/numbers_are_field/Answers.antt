use Rattle.std.proofs.Common.{arith, refl}
use Rattle.text_fields.proofs.NumberLaws.{numbers_field}
use Rattle.text_fields.proofs.ListLaws.{list_field}
use Rattle.text_fields.proofs.laws.numbers_are_field.Goals as goal

pub returns : goal.returns
returns c = λ most room lt. list_field _ _ _ _ (numbers_field most (omega arith)) (λ _. refl) room
