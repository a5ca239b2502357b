use Rattle.survey_server.proofs.ScriptCommandLemmas.{faults_join, no_memory_runs}
use Rattle.survey_server.proofs.StatusLaws.{faults_as}
use Rattle.survey_server.proofs.commands.run.Goals as goal

pub returns-in-Err-clause-ran : goal.returns-in-Err-clause-ran
returns-in-Err-clause-ran g c = no_memory_runs c.args.eliminators _ _ _ _ c.with_status.ensures

pub returns-clause-ran : goal.returns-clause-ran
returns-clause-ran g c = record {
  outcome = c.run_script-outcome.result;
  written = g.K.Sink.written c.run_script-outcome.new.sink;
  came = rw c.from.ensures at c.run_script-outcome.ensures.outcome;
  answered = c.answer_script.ensures.answered;
}

pub returns-clause-read_fault : goal.returns-clause-read_fault
returns-clause-read_fault g c =
    faults_as _ _ _ _ c.run_script-outcome.ensures.read_faults c.answer_script.ensures.read_fault.0 c.answer_script.ensures.read_fault.1

pub returns-clause-write_fault : goal.returns-clause-write_fault
returns-clause-write_fault g c =
    faults_join c.run_script-outcome.result _ _ _ _ c.run_script-outcome.ensures.write_faults c.answer_script.ensures.failed c.answer_script.ensures.write_fault
