use Rattle.std.proofs.Common.{ap, sym, arith, ◌∙◌, drop}
use Rattle.std.specs.Prelude.{Some}
use Rattle.edges.proofs.PartLemmas.{given_and_rest}
use Rattle.edges.proofs.quiet_ends.QuietSourceSource.take.Goals as goal

pub returns-clause-taken : goal.returns-clause-taken
returns-clause-taken c =
    ap Some (sym (given_and_rest c.self.inside.bytes.items c.deref.result.now (drop c.min-n.result c.args.buf.now) c.copy_from_slice.new.self c.self.inside.given c.min-n.result c.deref.ensures.value c.copy_from_slice.ensures.after (omega arith) ∙ c.self.view_is))
