use Rattle.std.proofs.Common.{◌≡◌, ◌+◌, length, min, arith}
use Rattle.edges.proofs.LineLemmas.{found_first, none_found}
use Rattle.edges.proofs.line_reader.line_end_within.Goals as goal

pub returns-in_err-found : goal.returns-in_err-found
returns-in_err-found c =
    let is : c.min-end.result ≡ min (length c.args.kept.now) (c.args.longest + 1) =
    omega (arith, c.min-end.ensures, c.saturating_add.ensures) in
    rw c.from_residual.ensures (none_found c.args.kept.now c.args.searched c.min-end.result c.args.longest c.requires.searched (omega arith) is c.in_err-found.ensures)

pub returns : goal.returns
returns c =
    let is : c.min-end.result ≡ min (length c.args.kept.now) (c.args.longest + 1) =
    omega (arith, c.min-end.ensures, c.saturating_add.ensures) in
    found_first c.args.kept.now c.args.searched c.min-end.result c.args.longest c.in_ok-found.found c.requires.searched (omega arith) is c.in_ok-found.ensures
