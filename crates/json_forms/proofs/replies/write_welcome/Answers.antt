use Rattle.std.proofs.Common.{append_assoc, refl}
use Rattle.json.specs.Print.{escape_byte}
use Rattle.json_forms.proofs.replies.write_welcome.Goals as goal

pub returns-clause-bytes : goal.returns-clause-bytes
unfolding escape_byte
returns-clause-bytes c = rw (c.add-3.ensures.bytes, c.write-2.ensures.bytes, c.add-2.ensures.bytes, c.write.ensures.bytes, c.add.ensures.bytes) (simp (append_assoc) refl)
