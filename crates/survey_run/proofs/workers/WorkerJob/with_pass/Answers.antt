use Rattle.std.proofs.Common.{◌++◌, ◌∷◌, [], List, sym, subst, arith}
use Rattle.std.specs.List.{AllZip}
use Rattle.shared_survey.specs.declared.pass.Pass.{Pass}
use Rattle.survey_run.specs.Workers.{IsFreshPass}
use Rattle.survey_run.proofs.EachLemmas.{all_zip_push}
use Rattle.survey_run.proofs.workers.WorkerJob.with_pass.Goals as goal

pub returns : goal.returns
returns c = λ criteria count worker surveys survey job fresh. record {
  number = job.number;
  is_worker = job.is_worker;
  passes = subst (λ (passes : List Pass). AllZip IsFreshPass (surveys ++ survey ∷ []) passes) (sym c.push_reserved.ensures.items)
      (all_zip_push IsFreshPass surveys c.args.self.passes.items survey c.args.pass job.passes fresh);
  room = omega (arith, job.room, c.push_reserved.ensures.capacity);
  back = job.back;
  tools = job.tools;
  jobs = job.jobs;
}
