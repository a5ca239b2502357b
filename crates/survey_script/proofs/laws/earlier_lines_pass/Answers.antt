use Rattle.survey_script.proofs.EarlierLemmas.{earlier_lines_pass_lem}
use Rattle.survey_script.proofs.laws.earlier_lines_pass.Goals as goal

pub returns : goal.returns
returns c = earlier_lines_pass_lem
