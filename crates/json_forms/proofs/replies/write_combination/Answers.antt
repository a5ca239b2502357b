use Rattle.std.proofs.Common.{◌++◌, ◌∙◌, codes, ap, rules}
use Rattle.std.specs.Int.{w128}
use Rattle.std.proofs.lemmas.Int.{to_z-of_z}
use Rattle.json.specs.Print.{escape_byte}
use Rattle.serde_json.specs.Written.{compact_text}
use Rattle.json_forms.specs.Json.{array_of, certificate, cite_json}
use Rattle.json_forms.proofs.ObjectLemmas.{three}
use Rattle.json_forms.proofs.replies.write_combination.Goals as goal

pub returns-clause-bytes : goal.returns-clause-bytes
unfolding escape_byte
returns-clause-bytes c =
    three c.args.out.now.bytes (codes "{\"answers\":") (compact_text (array_of cite_json c.args.combination.now.answers)) (codes ",\"increments\":") (compact_text (array_of certificate c.args.combination.now.increments)) (codes ",\"scale\":") (compact_text (certificate c.args.combination.now.scale)) (codes "}")
    c.add.new.self.bytes c.write_array.new.out.bytes c.add-2.new.self.bytes c.write_array-2.new.out.bytes c.add-3.new.self.bytes c.write.new.out.bytes c.add-4.new.self.bytes
    c.add.ensures.bytes
    (c.write_array.ensures.bytes ∙ ap (λ xs. c.add.new.self.bytes ++ compact_text (array_of cite_json xs)) c.as_slice.ensures.value)
    c.add-2.ensures.bytes
    (c.write_array-2.ensures.bytes ∙ ap (λ xs. c.add-2.new.self.bytes ++ compact_text (array_of certificate xs)) c.as_slice-2.ensures.value)
    c.add-3.ensures.bytes
    (c.write.ensures.bytes ∙ ap (λ scale. c.add-3.new.self.bytes ++ compact_text (certificate scale)) (to_z-of_z w128 c.args.combination.now.scale (search rules)))
    c.add-4.ensures.bytes
