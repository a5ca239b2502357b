use Rattle.std.proofs.Common.{◌≡◌, ℕ, ◌+◌, ◌<◌, ◌≤◌, List, [], ◌∷◌, ◌++◌, length}
use Rattle.std.specs.Prelude.{vec_len, vec_capacity}
use Rattle.std.specs.List.{AllByRecursion}
use Rattle.std.specs.Vec.Iter.{into_iter_items, into_iter_len}
use Rattle.criteria_model.specs.Criteria.{Criteria}
use Rattle.survey_replies.specs.Calls.{unseen}
use Rattle.shared_survey.specs.declared.survey.Survey.{Survey}
use Rattle.shared_survey.specs.Passes.{IsPassOf, pass_seen, pass_weight}
use Rattle.survey_run.specs.declared.workers.WorkerJob.{WorkerJob}
use Rattle.survey_run.specs.Each.{EachFrom}
use Rattle.survey_run.specs.Workers.{WorkAt}
use Rattle.survey_run.proofs.plans.give_passes.Given as goal

abbrev pub invariant-loop-job : goal.invariant-loop-job
invariant-loop-job l = let rest = l.job-iterator in record {
  pass : IsPassOf l.survey l.whole × (pass_weight l.whole + vec_len l.given ≡ pass_weight l.fn.whole);
  seen : pass_seen l.whole ≡ unseen;
  count : vec_len l.given + into_iter_len rest ≡ vec_len l.fn.works;
  capacity : vec_len l.given + into_iter_len rest ≤ vec_capacity l.given;
  rooms : AllByRecursion (λ (job : WorkerJob). length job.passes.items < vec_capacity job.passes) (into_iter_items rest);
  works : (criteria : Criteria) (count : ℕ) (surveys : List Survey) → EachFrom (WorkAt criteria count surveys) 0 l.fn.works.items
      → EachFrom (WorkAt criteria count surveys) (vec_len l.given) (into_iter_items rest) × EachFrom (WorkAt criteria count (surveys ++ l.survey ∷ [])) 0 l.given.items;
}
