use Rattle.text_fields.proofs.NumberLaws.{certificates_field}
use Rattle.text_fields.proofs.laws.certificate_is_field.Goals as goal

pub returns : goal.returns
returns c = certificates_field
