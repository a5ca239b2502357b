use Rattle.std.proofs.Common.{sym, ap, ◌∙◌}
use Rattle.pair_enumeration.proofs.OneList.{one_listed}
use Rattle.survey_state.specs.States.{Surveyed}
use Rattle.shared_survey.proofs.survey.Survey.build.Goals as goal

pub invariant_of-result : goal.invariant_of-result
invariant_of-result c = record {
  began = ap (λ (s : Surveyed). s.journal) c.in_ok-turn.ensures.turn.0 ∙ c.in_ok-state.ensures.empty;
  same_classes =
      ap (λ (s : Surveyed). s.listed) c.in_ok-turn.ensures.turn.0
      ∙ one_listed c.in_ok-state.state.listed c.in_ok-classes.classes c.in_ok-state.ensures.listed c.in_ok-classes.ensures.1
      (c.in_ok-state.ensures.model ∙ sym c.in_ok-classes.ensures.0);
}
