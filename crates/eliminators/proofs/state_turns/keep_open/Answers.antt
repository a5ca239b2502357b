use Rattle.std.proofs.Common.{rules}
use Rattle.std.specs.Prelude.{IsTrue}
use Rattle.eliminators.proofs.StateLemmas.{has_place, opens_by, opens_front, opened_kept}
use Rattle.eliminators.proofs.state_turns.keep_open.Goals as goal

pub still_opens-requires-clause-opens : goal.still_opens-requires-clause-opens
still_opens-requires-clause-opens c =
    opens_front c.model-model.result.levels c.args.snapshot.now.answers.answers c.answers-answers.result.now.answers c.common_front-known.result
    c.args.job.now.pair c.args.plus c.args.minus (search rules)
    (opens_by c.args.state.now.listed c.core-core.result.now.listed c.model-model.result c.args.snapshot.now.answers.answers c.args.job.now.pair
    c.args.plus c.args.minus c.core-core.ensures.listed c.model-model.ensures.value c.requires.opens)

pub keep_met-requires-clause-place : goal.keep_met-requires-clause-place
keep_met-requires-clause-place c = has_place c.args.state.now.listed c.args.job.now.place c.args.job.now.pair c.requires.class

pub keep_met-requires-clause-vectors : goal.keep_met-requires-clause-vectors
keep_met-requires-clause-vectors c =
    let opened : IsTrue c.still_opens.result = search rules in
    opened_kept c.args.state.now.listed c.core-core.result.now.listed c.args.state.now.journal c.core-core.result.now.history c.model-model.result
    c.answers-answers.result.now.answers c.args.job.now.place c.len-count.result c.args.job.now.pair c.args.plus c.args.minus
    c.core-core.ensures.listed c.core-core.ensures.history c.model-model.ensures.value c.answers-answers.ensures.value c.requires.class
    c.len-count.ensures.value (c.still_opens.ensures.0 opened)
