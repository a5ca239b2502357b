use Rattle.std.proofs.Common.{◌≡◌, ◌+◌, ◌++◌, ◌≤◌, map}
use Rattle.std.specs.Prelude.{vec_len, vec_capacity}
use Rattle.std.specs.Vec.Iter.{into_iter_items, into_iter_len}
use Rattle.survey_run.specs.declared.ends.SurveyEnd.{SurveyEnd}
use Rattle.survey_run.proofs.collect.collect_states.Given as goal

abbrev pub invariant-loop-end : goal.invariant-loop-end
invariant-loop-end l = let rest = l.end-iterator in record {
  count : vec_len l.states + into_iter_len rest ≡ vec_len l.fn.ends;
  room : vec_len l.states + into_iter_len rest ≤ vec_capacity l.states;
  states : l.states.items ++ map (λ (end : SurveyEnd). end.state) (into_iter_items rest) ≡ map (λ (end : SurveyEnd). end.state) l.fn.ends.items;
}
