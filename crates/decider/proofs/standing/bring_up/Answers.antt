use Rattle.std.proofs.Common.{◌≡◌, ◌+◌, ◌-◌, get_or, sym, ap, subst, ◌∙◌, arith}
use Rattle.std.specs.Prelude.{slice_get}
use Rattle.std.proofs.lemmas.Option.{get_or_from_slice_get}
use Rattle.criteria_model.specs.declared.pairs.Answer.{Answer}
use Rattle.criteria_model.specs.Pairs.{IsFit}
use Rattle.fraction_free.specs.Dictionary.{DictionaryView, IsDictionary}
use Rattle.decider.proofs.Standings.{Begun, begun_is_warm, begun_is_cold, brought_none, brought_more, brought_room, brought_up}
use Rattle.decider.proofs.standing.bring_up.Goals as goal
use Rattle.decider.proofs.standing.bring_up.Goals.{After-len-at-end, in-Some, in-None}

module _ (c : After-len-at-end) where
  begun : Begun c.args.model.now.levels c.args.answers.now.answers c.args.work.now c.match-standing.work c.match-standing.held
  begun = elim c.match-standing.branch [
    | in-Some w ↦ begun_is_warm c.args.model.now.levels c.args.answers.now.answers c.args.work.now c.match-standing.work c.match-standing.held w.in-Some.held w.work-is w.held-is
        w.in-Some.ensures.standing.0 w.in-Some.ensures.standing.1
    | in-None w ↦ begun_is_cold c.args.model.now.levels c.args.answers.now.answers c.args.work.now c.match-standing.work c.match-standing.held w.increments.result
        (w.work-is ∙ w.load.ensures.empty) w.held-is w.increments.ensures.value w.in-None.ensures.standing
  ]

pub loop-at-init : goal.loop-at-init
loop-at-init c =
    let dictionary : IsDictionary c.match-standing.work = elim c.match-standing.branch [
      | in-Some w ↦ subst (λ (t : DictionaryView). IsDictionary t) (sym w.work-is) w.in-Some.ensures.dictionary
      | in-None w ↦ subst (λ (t : DictionaryView). IsDictionary t) (sym w.work-is) w.load.ensures.dictionary
    ] in
    brought_none c.args.model.now.levels c.args.answers.now.answers c.args.work.now c.match-standing.work c.match-standing.held (begun (goal.at.loop-at-init c).After-len-at-end) dictionary

pub add_rows-requires-clause-fits : goal.add_rows-requires-clause-fits
add_rows-requires-clause-fits c =
    let place : c.loop-at.at + 1 - 1 ≡ c.loop-at.at = omega arith in
    let here : get_or c.args.answers.now.answers c.loop-at.at c.answer-answer.result ≡ c.answer-answer.result =
    get_or_from_slice_get c.args.answers.now.answers c.loop-at.at c.answer-answer.result c.answer-answer.result (ap (slice_get c.args.answers.now.answers) (sym place) ∙ c.answer-answer.ensures) in
    subst (λ (a : Answer). IsFit c.args.model.now.levels a.pair) here (c.requires.fit c.loop-at.at c.answer-answer.result (omega (arith, c.len-at-end.ensures.value)))

pub add_rows-requires-clause-room : goal.add_rows-requires-clause-room
add_rows-requires-clause-room c =
    brought_room c.args.model.now.levels c.args.answers.now.answers c.args.work.now c.match-standing.work c.loop-at.work c.match-standing.held c.loop-at.at
    (omega (arith, c.len-at-end.ensures.value)) c.requires.room (begun (goal.at.add_rows-requires-clause-room c).After-len-at-end).room c.loop-at.invariant

pub loop-at-preserved : goal.loop-at-preserved
loop-at-preserved c =
    let place : c.loop-at.at + 1 - 1 ≡ c.loop-at.at = omega arith in
    let here : get_or c.args.answers.now.answers c.loop-at.at c.answer-answer.result ≡ c.answer-answer.result =
    get_or_from_slice_get c.args.answers.now.answers c.loop-at.at c.answer-answer.result c.answer-answer.result (ap (slice_get c.args.answers.now.answers) (sym place) ∙ c.answer-answer.ensures) in
    brought_more c.args.model.now.levels c.args.answers.now.answers c.match-standing.work c.loop-at.work c.add_rows.new.work c.match-standing.held c.loop-at.at c.answer-answer.result
    c.loop-at.auto.at (omega (arith, c.len-at-end.ensures.value)) here c.add_rows.ensures.loaded c.add_rows.ensures.columns c.add_rows.ensures.room c.add_rows.ensures.loads
    c.add_rows.ensures.added c.add_rows.ensures.dictionary c.loop-at.invariant

pub returns-clause-up : goal.returns-clause-up
returns-clause-up c =
    let begun = begun (goal.at.returns-clause-up c).After-len-at-end in
    let most = begun.most in
    let end = c.loop-at.auto.at-end in
    brought_up c.args.model.now.levels c.args.answers.now.answers c.args.work.now c.match-standing.work c.loop-at.work c.match-standing.held c.loop-at.at
    (omega (arith, c.len-at-end.ensures.value, c.loop-at-test.false)) (omega (arith, c.len-at-end.ensures.value, most, end)) begun c.loop-at.invariant
