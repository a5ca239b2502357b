use Rattle.result_file.proofs.WorthLaws.{worth}
use Rattle.result_file.proofs.laws.checked_is_worth.Goals as goal

pub returns : goal.returns
returns c = worth
