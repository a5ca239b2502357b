use Rattle.result_file.proofs.OneVerdict.{one_verdict_lem}
use Rattle.result_file.proofs.laws.one_verdict.Goals as goal

pub returns : goal.returns
returns c = one_verdict_lem
