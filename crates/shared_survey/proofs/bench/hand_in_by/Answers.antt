use Rattle.eliminators.proofs.WorkLemmas.{handed_in_longer}
use Rattle.shared_survey.proofs.bench.hand_in_by.Goals as goal

pub leave-requires-clause-longer : goal.leave-requires-clause-longer
leave-requires-clause-longer g c = (
  c.enter-state.result.journal,
  c.enter-state.ensures.out,
  handed_in_longer c.enter-state.result.listed c.args.worker c.args.job c.args.decision c.enter-state.result.journal c.hand_in_to-answer.new.state.journal
      c.hand_in_to-answer.result c.hand_in_to-answer.ensures.handed_in,
)
