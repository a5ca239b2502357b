use Rattle.std.proofs.Common.{◌∙◌, ◌++◌, ap, codes, decimal}
use Rattle.text_fields.specs.Spelling.{listed}
use Rattle.result_file.proofs.ListedLemmas.{heading_steps}
use Rattle.result_file.proofs.writing.write_heading.Goals as goal

pub returns-clause-bytes : goal.returns-clause-bytes
returns-clause-bytes c =
    heading_steps c.args.out.now.bytes (codes "paprika result 2") (codes "model ") (listed decimal c.args.model.now.levels) (codes " degree ") (decimal c.args.model.now.degree) (codes "\n")
    c.add.new.self.bytes c.write_levels.new.out.bytes c.add-2.new.self.bytes c.write.new.out.bytes c.add-3.new.self.bytes
    c.add.ensures.bytes c.write_levels.ensures.bytes c.add-2.ensures.bytes
    (c.write.ensures.bytes ∙ ap (λ degree. c.add-2.new.self.bytes ++ decimal degree) c.degree.ensures.value)
    c.add-3.ensures.bytes
