use Rattle.result_file.proofs.StageLaws.{no_model, spelled_model, wrong_model}
use Rattle.result_file.proofs.progress.begin.Goals as goal

pub returns-in_default-clause-failed : goal.returns-in_default-clause-failed
returns-in_default-clause-failed c = no_model c.args.line.now c.requires c.in_default.ensures

pub returns-in-Ok-clause-spelled : goal.returns-in-Ok-clause-spelled
returns-in-Ok-clause-spelled c = spelled_model c.args.line.now c.model_of.new.cells c.in-Some.count c.in-Some.degree c.in-Ok.model c.in-Some.ensures.1 c.in-Ok.ensures.0

pub returns-in-Err-clause-failed : goal.returns-in-Err-clause-failed
returns-in-Err-clause-failed c = wrong_model c.args.line.now c.model_of.new.cells c.in-Some.count c.in-Some.degree c.in-Err.field-0 c.in-Some.ensures.1 c.in-Err.ensures
