use Rattle.survey_state.proofs.ReplyLemmas.{complete}
use Rattle.survey_state.proofs.next.NextCallCall.seek.Goals as goal

pub returns-in-None-first_unranked : goal.returns-in-None-first_unranked
returns-in-None-first_unranked c =
    complete c.args.state.now.listed c.args.state.now.journal c.length.ensures.legal c.args.self.now.desk c.length.result c.length.ensures.value
    c.in-None-first_unranked.ensures
