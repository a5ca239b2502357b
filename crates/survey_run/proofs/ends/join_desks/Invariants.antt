use Rattle.std.proofs.Common.{◌≡◌, ℕ, ◌≤◌, ◌+◌, List}
use Rattle.std.specs.Prelude.{vec_len, vec_capacity}
use Rattle.std.specs.Vec.Iter.{into_iter_items, into_iter_len}
use Rattle.shared_survey.specs.Passes.{IsPassOf, pass_seen, pass_weight, survey_listed}
use Rattle.survey_script.specs.ScriptViews.{ScriptSessionView}
use Rattle.survey_run.specs.Each.{EachFrom}
use Rattle.survey_run.specs.Joins.{SpeechAt}
use Rattle.survey_run.proofs.GatherLemmas.{GathersDesks}
use Rattle.survey_run.proofs.ends.join_desks.Given as goal

abbrev pub invariant-loop-one : goal.invariant-loop-one
invariant-loop-one l = let rest = l.one-iterator in record {
  pass : IsPassOf l.survey l.whole × (pass_weight l.whole ≡ pass_weight l.fn.whole + vec_len l.told);
  count : vec_len l.told + into_iter_len rest ≡ vec_len l.fn.spoken;
  room : vec_len l.told + into_iter_len rest ≤ vec_capacity l.told;
  gathered : (respondent : ℕ) (sessions : List ScriptSessionView) → EachFrom (SpeechAt l.survey respondent sessions) 0 l.fn.spoken.items
      → EachFrom (SpeechAt l.survey respondent sessions) (vec_len l.told) (into_iter_items rest)
      × GathersDesks (survey_listed l.survey) respondent sessions (pass_seen l.whole) (vec_len l.told) l.told.items;
}
