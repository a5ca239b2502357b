use Rattle.std.proofs.Common.{◌∙◌, ◌++◌, ap, codes, decimal}
use Rattle.result_file.specs.Texts.{pair_text, side_text, combination_text}
use Rattle.result_file.proofs.ListedLemmas.{elimination_steps}
use Rattle.result_file.proofs.writing.write_elimination.Goals as goal

pub returns-clause-bytes : goal.returns-clause-bytes
returns-clause-bytes c =
    elimination_steps c.args.out.now.bytes (codes "eliminate ") (decimal c.args.worker) (codes " ") (pair_text c.args.pair.now) (side_text c.args.verdict) (combination_text c.args.combination.now)
    c.add.new.self.bytes c.write.new.out.bytes c.add-2.new.self.bytes c.write_pair.new.out.bytes c.add-3.new.self.bytes c.add-4.new.self.bytes c.add-5.new.self.bytes c.write_combination.new.out.bytes
    c.add.ensures.bytes c.write.ensures.bytes c.add-2.ensures.bytes c.write_pair.ensures.bytes c.add-3.ensures.bytes
    (c.add-4.ensures.bytes ∙ ap (λ word. c.add-3.new.self.bytes ++ word) c.side_word.ensures.value)
    c.add-5.ensures.bytes c.write_combination.ensures.bytes
