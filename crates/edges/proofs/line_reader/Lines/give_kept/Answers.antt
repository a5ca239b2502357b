use Rattle.std.proofs.Common.{◌∙◌, ap, sym, arith, drop}
use Rattle.edges.specs.Lines.{LinesView}
use Rattle.edges.proofs.PartLemmas.{part_and_rest}
use Rattle.edges.proofs.line_reader.Lines.give_kept.Goals as goal

pub returns-clause-given : goal.returns-clause-given
returns-clause-given c =
    sym (part_and_rest c.self.inside.buffer.items c.deref.result.now (drop c.min-n.result c.args.buf.now) c.copy_from_slice.new.self c.self.inside.kept_start c.self.inside.kept_end c.min-n.result c.deref.ensures.value c.copy_from_slice.ensures.after (omega arith) (omega arith) ∙ ap (λ (v : LinesView). v.kept) c.self.view_is)
