use Rattle.std.proofs.Common.{◌++◌, ◌∙◌, codes, ap}
use Rattle.json.specs.Print.{escape_byte}
use Rattle.serde_json.specs.Written.{compact_text}
use Rattle.json_forms.specs.Json.{array_of, whole, certificate}
use Rattle.json_forms.specs.Replies.{level_values_json}
use Rattle.part_worths.specs.Apportionment.{shares_of}
use Rattle.part_worths.specs.Values.{best_values}
use Rattle.json_forms.proofs.ObjectLemmas.{three_within}
use Rattle.json_forms.proofs.replies.write_vector.Goals as goal

pub returns-clause-bytes : goal.returns-clause-bytes
unfolding escape_byte
returns-clause-bytes c =
    three_within c.args.out.now.bytes (codes "{\"values\":{\"levels\":") (compact_text (level_values_json c.args.model.now.levels c.args.vector.now)) (codes ",\"vector\":") (compact_text (array_of certificate c.args.vector.now)) (codes ",\"weights\":") (compact_text (array_of whole (shares_of (best_values c.args.model.now.levels c.args.vector.now)))) (codes "}") (codes "}") (codes "\n")
    c.add.new.self.bytes c.write_level_values.new.out.bytes c.add-2.new.self.bytes c.write_array.new.out.bytes c.add-3.new.self.bytes c.write_array-2.new.out.bytes c.add-4.new.self.bytes
    c.add.ensures.bytes
    c.write_level_values.ensures.bytes
    c.add-2.ensures.bytes
    (c.write_array.ensures.bytes ∙ ap (λ xs. c.add-2.new.self.bytes ++ compact_text (array_of certificate xs)) c.as_slice.ensures.value)
    c.add-3.ensures.bytes
    (c.write_array-2.ensures.bytes ∙ ap (λ xs. c.add-3.new.self.bytes ++ compact_text (array_of whole xs)) (c.as_slice-2.ensures.value ∙ c.shares.ensures))
    c.add-4.ensures.bytes
