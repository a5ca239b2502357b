use Rattle.survey_state.proofs.ReplyLemmas.{unranked_class, may_close, implied}
use Rattle.survey_state.proofs.answer.AnswerCallCall.rank.Goals as goal

pub eliminate_once-requires-clause-unranked : goal.eliminate_once-requires-clause-unranked
eliminate_once-requires-clause-unranked c =
    unranked_class c.args.state.now.listed c.args.state.now.journal c.length-at.ensures.legal c.args.self.now.desk c.length-at.result c.length-at.ensures.value
    c.args.self.now.question c.args.self.now.side c.args.place c.requires.sought.0 c.requires.sought.1

pub record-requires-clause-allowed : goal.record-requires-clause-allowed
record-requires-clause-allowed c =
    may_close c.args.state.now.listed c.args.state.now.journal c.length-at.ensures.legal c.args.self.now.desk c.length-at.result c.length-at.ensures.value
    c.args.self.now.question c.args.self.now.side c.args.place c.requires.sought.0 c.requires.sought.1 c.args.verdict c.args.combination.now
    c.eliminate_once.new.state.journal c.eliminate_once.ensures.journal

pub returns-clause-recorded : goal.returns-clause-recorded
returns-clause-recorded c =
    implied c.args.state.now.listed c.args.state.now.journal c.length-at.ensures.legal c.args.self.now.desk c.length-at.result c.length-at.ensures.value
    c.args.self.now.question c.args.self.now.side c.args.place c.requires.sought.0 c.requires.sought.1 c.args.verdict c.args.combination.now
    c.eliminate_once.new.state.journal c.record.new.state.journal c.requires.certified c.eliminate_once.ensures.journal c.record.ensures.journal
