use Rattle.eliminators.proofs.WorkLemmas.{work_eliminates_lem}
use Rattle.eliminators.proofs.laws.work_eliminates.Goals as goal

pub returns : goal.returns
returns c = work_eliminates_lem
