use Rattle.survey_state.proofs.RoomLemmas.{three_a_class_follow_lem}
use Rattle.survey_state.proofs.laws.three_a_class_follow.Goals as goal

pub returns : goal.returns
returns c = three_a_class_follow_lem
