use Rattle.answer_rows.specs.Room.{room_of}
use Rattle.eliminators.proofs.StateLemmas.{copied_all}
use Rattle.eliminators.proofs.state_turns.copy_answers.Goals as goal

pub returns-clause-ready : goal.returns-clause-ready
returns-clause-ready c =
    copied_all c.args.state.now.listed c.core-core.result.now.listed c.args.state.now.journal c.core-core.result.now.history c.answers.result.now.answers
    (room_of c.args.snapshot.now.answers) c.snapshot_into.result c.snapshot_into.new.snapshot c.core-core.ensures.listed c.core-core.ensures.history
    (record { model = c.model.ensures.listed; value = c.answers.ensures.value; fit = c.answers.ensures.fit; few = c.answers.ensures.few })
    c.requires c.snapshot_into.ensures.answers c.snapshot_into.ensures.missing c.snapshot_into.ensures.whole
