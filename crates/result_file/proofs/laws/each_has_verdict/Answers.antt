use Rattle.result_file.proofs.EachVerdict.{each_has_verdict_lem}
use Rattle.result_file.proofs.laws.each_has_verdict.Goals as goal

pub returns : goal.returns
returns c = each_has_verdict_lem
