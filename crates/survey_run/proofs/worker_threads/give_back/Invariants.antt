use Rattle.std.proofs.Common.{ℕ, ◌+◌, ◌≤◌, List, length}
use Rattle.std.specs.Prelude.{vec_len, vec_capacity}
use Rattle.std.specs.List.{AllZip}
use Rattle.shared_survey.specs.declared.survey.Survey.{Survey}
use Rattle.survey_run.specs.Workers.{HasWorked, HasWorkedAt}
use Rattle.survey_run.proofs.EachLemmas.{IsPartStacked}
use Rattle.survey_run.proofs.worker_threads.give_back.Given as goal

abbrev pub invariant-loop-bench : goal.invariant-loop-bench
invariant-loop-bench g l = record {
  stacked : (worker : ℕ) (surveys : List Survey) → AllZip (HasWorkedAt worker) surveys l.fn.benches.list.items
      → IsPartStacked (λ n. HasWorkedAt worker) (λ n. HasWorked worker) surveys l.benches.list.items l.back.items;
  room : length l.benches.list.items + vec_len l.back ≤ vec_capacity l.back;
}

abbrev pub decreases-loop-bench : goal.decreases-loop-bench
decreases-loop-bench g l = length l.benches.list.items
