use Rattle.std.proofs.Common.{◌++◌, ◌∙◌, codes, decimal, ap}
use Rattle.json.specs.Print.{escape_byte, quoted}
use Rattle.serde_json.specs.Written.{compact_text}
use Rattle.json_forms.specs.Replies.{combination_json}
use Rattle.json_forms.specs.Sides.{side_word}
use Rattle.json_forms.proofs.ObjectLemmas.{three_within}
use Rattle.json_forms.proofs.replies.write_implied.Goals as goal

pub returns-clause-bytes : goal.returns-clause-bytes
unfolding escape_byte
returns-clause-bytes c =
    three_within c.args.out.now.bytes (codes "{\"implied\":{\"combination\":") (compact_text (combination_json c.args.combination.now)) (codes ",\"question\":") (decimal c.args.question) (codes ",\"verdict\":") (quoted (side_word c.args.verdict)) (codes "}") (codes "}") (codes "\n")
    c.add.new.self.bytes c.write_combination.new.out.bytes c.add-2.new.self.bytes c.write.new.out.bytes c.add-3.new.self.bytes c.add-4.new.self.bytes c.add-5.new.self.bytes
    c.add.ensures.bytes
    c.write_combination.ensures.bytes
    c.add-2.ensures.bytes
    c.write.ensures.bytes
    c.add-3.ensures.bytes
    (c.add-4.ensures.bytes ∙ ap (λ word. c.add-3.new.self.bytes ++ word) (c.as_bytes.ensures.value ∙ c.quoted_side.ensures.value))
    c.add-5.ensures.bytes
