use Rattle.survey_state.proofs.ReplyLemmas.{accepted, may_commit}
use Rattle.survey_state.proofs.answer.AnswerCallCall.open.Goals as goal

pub record-requires-clause-allowed : goal.record-requires-clause-allowed
record-requires-clause-allowed c =
    may_commit c.args.state.now.listed c.args.state.now.journal c.length-at.ensures.legal c.args.self.now.desk c.length-at.result c.length-at.ensures.value
    c.args.self.now.question c.args.self.now.side c.args._place c.requires.sought.0 c.requires.sought.1 c.args.plus.now c.args.minus.now c.args.point.now
    c.requires.opens c.requires.meets

pub returns-clause-replied : goal.returns-clause-replied
returns-clause-replied c =
    accepted c.args.state.now.listed c.args.state.now.journal c.length-at.ensures.legal c.args.self.now.desk c.length-at.result c.length-at.ensures.value
    c.args.self.now.question c.args.self.now.side c.args._place c.requires.sought.0 c.requires.sought.1 c.record.new.state.journal
    c.args.plus.now c.args.minus.now c.args.point.now c.requires.opens c.record.ensures.journal
