use Rattle.std.proofs.Common.{ℕ, ◌+◌, ◌≤◌, List}
use Rattle.std.specs.Prelude.{vec_len, vec_capacity}
use Rattle.std.specs.List.{AllZip}
use Rattle.shared_survey.specs.declared.survey.Survey.{Survey}
use Rattle.survey_run.specs.Workers.{HasWorked, IsFreshPass}
use Rattle.survey_run.proofs.EachLemmas.{IsPartStacked}
use Rattle.survey_run.proofs.worker_threads.turned.Given as goal

abbrev pub invariant-loop-pass : goal.invariant-loop-pass
invariant-loop-pass l = record {
  stacked : (worker : ℕ) (surveys : List Survey) → AllZip IsFreshPass surveys l.fn.passes.items
      → IsPartStacked (λ n. IsFreshPass) (λ n. HasWorked worker) surveys l.passes.items l.back.items;
  room : vec_len l.passes + vec_len l.back ≤ vec_capacity l.back;
}

abbrev pub decreases-loop-pass : goal.decreases-loop-pass
decreases-loop-pass l = vec_len l.passes
