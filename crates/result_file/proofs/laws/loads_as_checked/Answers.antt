use Rattle.result_file.proofs.OneLoading.{loads_as_checked_lem}
use Rattle.result_file.proofs.laws.loads_as_checked.Goals as goal

pub returns : goal.returns
returns c = loads_as_checked_lem
