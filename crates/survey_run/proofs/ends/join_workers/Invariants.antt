use Rattle.std.proofs.Common.{◌≡◌, ℕ, ◌+◌, List, []}
use Rattle.std.specs.Prelude.{vec_len}
use Rattle.shared_survey.specs.Passes.{IsPassOf, pass_seen, pass_weight, survey_listed}
use Rattle.survey_script.specs.ScriptViews.{ScriptSessionView}
use Rattle.survey_run.specs.declared.plans.DeskTold.{DeskTold}
use Rattle.survey_run.specs.Ends.{DeskPart, Gathers}
use Rattle.survey_run.specs.Tops.{HasTop, LosesTop}
use Rattle.survey_run.proofs.ChangeLemmas.{IsChangedTo}
use Rattle.survey_run.proofs.GatherLemmas.{GathersWorkers}
use Rattle.survey_run.proofs.ends.join_workers.Given as goal

abbrev pub invariant-loop-passes : goal.invariant-loop-passes
invariant-loop-passes l = record {
  pass : IsPassOf l.survey l.whole × (pass_weight l.whole ≡ pass_weight l.fn.whole + l.passes-index);
  tops : IsChangedTo LosesTop (HasTop l.survey) l.passes-index l.fn.worked.items l.passes-items;
  gathered : (respondent : ℕ) (sessions : List ScriptSessionView) (parts : List DeskPart) (told : List DeskTold)
      → Gathers (survey_listed l.survey) respondent sessions (pass_seen l.fn.whole) parts [] told
      → GathersWorkers (survey_listed l.survey) respondent sessions (pass_seen l.whole) (vec_len l.fn.worked) parts told;
}
