use Rattle.std.proofs.Common.{◌≡◌, ◌≤◌, ◌+◌, List, length}
use Rattle.std.specs.Prelude.{vec_len, vec_capacity}
use Rattle.std.specs.Vec.Iter.{into_iter_items, into_iter_len}
use Rattle.criteria_model.specs.Criteria.{Criteria}
use Rattle.survey_script.specs.ScriptViews.{ScriptSessionView}
use Rattle.survey_run.specs.Each.{EachFrom, EachZipFrom, StackFrom}
use Rattle.survey_run.specs.Ends.{DeskPart, EndAt}
use Rattle.survey_run.specs.Joins.{SpokenAt}
use Rattle.survey_run.proofs.GatherLemmas.{WorkedFrom}
use Rattle.survey_run.proofs.ends.close_surveys.Given as goal

abbrev pub invariant-loop-survey : goal.invariant-loop-survey
invariant-loop-survey l = let rest = l.survey-iterator in record {
  count : vec_len l.ends + into_iter_len rest ≡ vec_len l.fn.surveys;
  room : vec_len l.ends + into_iter_len rest ≤ vec_capacity l.ends;
  workers : vec_len l.worked ≡ vec_len l.fn.worked;
  worked : EachFrom (WorkedFrom (vec_len l.ends) (into_iter_items rest)) 0 l.worked.items;
  closed : (criteria : Criteria) (sessions : List ScriptSessionView) → StackFrom (SpokenAt criteria (vec_len l.fn.worked) sessions) 0 l.fn.surveys.items l.fn.spoken.items
      → StackFrom (SpokenAt criteria (vec_len l.fn.worked) sessions) (vec_len l.ends) (into_iter_items rest) l.spoken.items
      × (parts : List (List DeskPart)) × (length parts ≡ vec_len l.ends) × EachZipFrom (EndAt criteria (vec_len l.fn.worked) sessions) 0 parts l.ends.items;
}
