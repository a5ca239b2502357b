use Rattle.survey_script.proofs.SplitLemmas.{lines_are_split_lem}
use Rattle.survey_script.proofs.laws.lines_are_split.Goals as goal

pub returns : goal.returns
returns c = lines_are_split_lem
