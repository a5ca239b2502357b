use Rattle.text_fields.proofs.WordLaws.{word_field}
use Rattle.text_fields.proofs.laws.word_is_field.Goals as goal

pub returns : goal.returns
returns c = word_field
