use Rattle.survey_script.proofs.ScriptLemmas.{scripts_are_lines_lem}
use Rattle.survey_script.proofs.laws.scripts_are_lines.Goals as goal

pub returns : goal.returns
returns c = scripts_are_lines_lem
