use Rattle.std.proofs.Common.{arith}
use Rattle.text_fields.proofs.NumberLaws.{numbers_field}
use Rattle.text_fields.proofs.laws.number_is_field.Goals as goal

pub returns : goal.returns
returns c = λ most lt. numbers_field most (omega arith)
