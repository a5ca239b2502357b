use Rattle.std.proofs.Common.{◌≡◌, Some, None, List, refl, subst}
use Rattle.pair_enumeration.specs.Listed.{Listed}
use Rattle.survey_core.specs.declared.events.Event.{Event}
use Rattle.survey_core.specs.Legal.{IsLegal}
use Rattle.survey_state.proofs.SoloLemmas.{held_turn}
use Rattle.eliminators.proofs.WorkLemmas.{handed_in_longer}
use Rattle.eliminators.proofs.tests.state_bench.StateBenchBench.hand_in.Goals as goal

pub returns-clause-handed_in : goal.returns-clause-handed_in
returns-clause-handed_in c =
    let found : List Event = c.args.self.now.state.journal in
    let after : List Event = c.hand_in_to-answer.new.state.journal in
    record {
      found = found;
      turn =
          held_turn None c.args.self.now.state after (
            found,
            refl,
            handed_in_longer c.args.self.now.state.listed 3 c.args.job c.args.decision found after c.hand_in_to-answer.result c.hand_in_to-answer.ensures.handed_in,
          ) found refl;
      handed_in = c.hand_in_to-answer.ensures.handed_in;
    }

pub returns-clause-legal : goal.returns-clause-legal
returns-clause-legal c =
    subst (λ (l : Listed). IsLegal l c.hand_in_to-answer.new.state.journal) c.hand_in_to-answer.ensures.listed c.length-self.ensures.legal
