use Rattle.std.proofs.Common.{pos}
use Rattle.std.proofs.lemmas.List.{take-replicate}
use Rattle.fraction_free.proofs.lines.Line.zeros.Goals as goal

pub returns : goal.returns
returns c = take-replicate c.args.len 25 (pos 0) c.requires
