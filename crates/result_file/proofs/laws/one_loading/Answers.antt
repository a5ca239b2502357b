use Rattle.result_file.proofs.OneLoading.{one_loading_lem}
use Rattle.result_file.proofs.laws.one_loading.Goals as goal

pub returns : goal.returns
returns c = one_loading_lem
