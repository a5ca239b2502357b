use Rattle.std.proofs.Common.{append_assoc, refl}
use Rattle.std.specs.Int.{w128}
use Rattle.std.proofs.lemmas.Int.{to_z-of_z}
use Rattle.json_forms.proofs.NumberLemmas.{quoted-signed}
use Rattle.json_forms.proofs.writing.I128Item.write.Goals as goal

pub returns-clause-bytes : goal.returns-clause-bytes
returns-clause-bytes c =
    rw (
      quoted-signed c.args.self,
      c.add-3.ensures.bytes,
      c.add-2.ensures.bytes,
      c.add.ensures.bytes,
      c.as_bytes.ensures.value,
      c.format.ensures.text,
      to_z-of_z w128 c.args.self c.ranges.self,
    )
    (simp (append_assoc) refl)
