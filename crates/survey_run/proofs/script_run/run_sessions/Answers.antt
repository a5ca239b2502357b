use Rattle.std.proofs.Common.{◌≡◌, ◌∙◌, ℕ, subst, rules}
use Rattle.std.specs.Prelude.{IfOk, vec_len}
use Rattle.survey_run.specs.Runs.{IsRun}
use Rattle.survey_run.proofs.script_run.run_sessions.Goals as goal

pub returns : goal.returns
returns g c =
    let same : vec_len c.scoped-finished.result.worked ≡ vec_len c.in_ok-prepared.prepared.plan.works = search rules in
    subst (λ (workers : ℕ). IfOk c.end_run.result (λ end. IsRun c.args.script.now workers end)) (same ∙ c.in_ok-prepared.ensures.workers_are) c.end_run.ensures
