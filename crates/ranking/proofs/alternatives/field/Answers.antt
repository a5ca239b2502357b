use Rattle.std.proofs.Common.{◌∙◌, sym}
use Rattle.csv.specs.Records.{fields_of}
use Rattle.csv.proofs.RecordFacts.{field-there}
use Rattle.ranking.proofs.FieldLemmas.{field_at-get}
use Rattle.ranking.proofs.alternatives.field.Goals as goal

pub unreachable-requires : goal.unreachable-requires
unreachable-requires c = field-there (fields_of c.args.row.now) c.args.place c.requires (sym (rw c.in-None.is at c.get.ensures.value))

pub returns : goal.returns
returns c = sym (field_at-get (fields_of c.args.row.now) c.args.place) ∙ sym (rw c.in-Some.is at c.get.ensures.value)
