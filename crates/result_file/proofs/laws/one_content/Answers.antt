use Rattle.result_file.proofs.OneVerdict.{one_content_lem}
use Rattle.result_file.proofs.laws.one_content.Goals as goal

pub returns : goal.returns
returns c = one_content_lem
