use Rattle.std.proofs.Common.{◌≡◌, ◌+◌, ◌-◌, Some, get_or, take, sym, ap, ◌∙◌, arith}
use Rattle.std.specs.Prelude.{slice_get}
use Rattle.std.proofs.lemmas.Bool.{true≢false}
use Rattle.std.proofs.lemmas.Option.{get_or_from_slice_get}
use Rattle.decider.specs.Standing.{rows_of_answers}
use Rattle.decider.proofs.Standings.{held_more, none_other, none_fewer, begins_all}
use Rattle.decider.proofs.standing.standing.Goals as goal
use Rattle.decider.proofs.standing.standing.Goals.{then-answers-test+else-held-len, else-answers-test}

pub returns-then-not-has_rows-clause-standing : goal.returns-then-not-has_rows-clause-standing
returns-then-not-has_rows-clause-standing c =
    let place : c.answers.held + 1 - 1 ≡ c.answers.held = omega arith in
    let here : get_or c.args.answers.now.answers c.answers.held c.answer-answer.result ≡ c.answer-answer.result =
    get_or_from_slice_get c.args.answers.now.answers c.answers.held c.answer-answer.result c.answer-answer.result (ap (slice_get c.args.answers.now.answers) (sym place) ∙ c.answer-answer.ensures) in
    none_other c.args.model.now.levels c.args.answers.now.answers c.args.work.now c.answers.row c.answers.held c.answer-answer.result
    (omega (arith, c.len.ensures.value)) here (omega (arith, c.rows.ensures.value)) c.answers.invariant
    (λ b. true≢false (sym (c.has_rows.ensures.1 b) ∙ c.if-not-has_rows.true))

pub answers-preserved : goal.answers-preserved
answers-preserved c =
    let place : c.answers.held + 1 - 1 ≡ c.answers.held = omega arith in
    let got : slice_get c.args.answers.now.answers c.answers.held ≡ Some c.answer-answer.result = ap (slice_get c.args.answers.now.answers) (sym place) ∙ c.answer-answer.ensures in
    let here : get_or c.args.answers.now.answers c.answers.held c.answer-answer.result ≡ c.answer-answer.result =
    get_or_from_slice_get c.args.answers.now.answers c.answers.held c.answer-answer.result c.answer-answer.result got in
    held_more c.args.model.now.levels c.args.answers.now.answers c.args.work.now.loaded c.answers.row c.answers.held c.row_count-row.result c.answer-answer.result
    (omega (arith, c.len.ensures.value)) got here (c.row_count-row.ensures c.args.model.now.levels c.answer-answer.result.pair)
    (c.has_rows.ensures.0 c.if-not-has_rows.false) c.answers.invariant

pub returns-then-row-rows-clause-standing : goal.returns-then-row-rows-clause-standing
returns-then-row-rows-clause-standing c = (
  c.answers.invariant.most,
  record {
    columns = sym c.cols.ensures.value ∙ c.if-cols-increments.false ∙ c.increments.ensures.value;
    loaded = begins_all c.args.work.now.loaded (rows_of_answers c.args.model.now.levels (take c.answers.held c.args.answers.now.answers)) c.answers.invariant.begins
        (sym c.answers.invariant.row_is ∙ c.if-row-rows.true ∙ c.rows-2.ensures.value);
  },
)

pub returns-else-row-rows-clause-standing : goal.returns-else-row-rows-clause-standing
returns-else-row-rows-clause-standing c k le stands =
    elim c.answers-test.branch [
      | then-answers-test+else-held-len w ↦
          none_fewer c.args.model.now.levels c.args.answers.now.answers c.args.work.now c.answers.row c.answers.held
          (omega (arith, c.answers.invariant.within, c.if-row-rows.false, c.rows-2.ensures.value)) c.answers.invariant k (omega (arith, w.if-held-len.false, w.len.ensures.value)) stands
      | else-answers-test w ↦ omega (arith, c.answers.invariant.within, c.if-row-rows.false, c.rows-2.ensures.value, w.answers-test.false, c.rows.ensures.value)
    ]
