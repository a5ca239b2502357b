use Rattle.std.proofs.Common.{◌++◌, ◌∙◌, codes, decimal, ap}
use Rattle.json.specs.Print.{escape_byte}
use Rattle.serde_json.specs.Written.{compact_text}
use Rattle.json_forms.specs.Json.{array_of, whole}
use Rattle.json_forms.proofs.ObjectLemmas.{three_within}
use Rattle.json_forms.proofs.replies.write_question.Goals as goal

pub returns-clause-bytes : goal.returns-clause-bytes
unfolding escape_byte
returns-clause-bytes c =
    three_within c.args.out.now.bytes (codes "{\"question\":{\"left\":") (compact_text (array_of whole c.args.pair.now.left)) (codes ",\"number\":") (decimal c.args.number) (codes ",\"right\":") (compact_text (array_of whole c.args.pair.now.right)) (codes "}") (codes "}") (codes "\n")
    c.add.new.self.bytes c.write_array.new.out.bytes c.add-2.new.self.bytes c.write.new.out.bytes c.add-3.new.self.bytes c.write_array-2.new.out.bytes c.add-4.new.self.bytes
    c.add.ensures.bytes
    (c.write_array.ensures.bytes ∙ ap (λ xs. c.add.new.self.bytes ++ compact_text (array_of whole xs)) c.as_slice.ensures.value)
    c.add-2.ensures.bytes
    c.write.ensures.bytes
    c.add-3.ensures.bytes
    (c.write_array-2.ensures.bytes ∙ ap (λ xs. c.add-3.new.self.bytes ++ compact_text (array_of whole xs)) c.as_slice-2.ensures.value)
    c.add-4.ensures.bytes
