use Rattle.std.proofs.Common.{◌≡◌, ◌<◌, [], length, get_or, refl, ◌∙◌, arith}
use Rattle.decider.specs.Combining.{rows_for}
use Rattle.decider.proofs.AnswerRows.{listed_at}
use Rattle.decider.proofs.Citing.{rows_for-length, rows_in-more}
use Rattle.decider.proofs.tested.held_with.Goals as goal

pub loop-at-preserved : goal.loop-at-preserved
loop-at-preserved c =
    let read = c.index-listed-at.result in
    let answer = get_or c.as_slice-listed.result.now c.loop-at.at read in
    let lt : c.loop-at.at < length c.args.answers.now.answers = omega (arith, c.len-at-end.ensures.value, c.loop-at-test.true) in
    let here = listed_at c.args.answers.now.answers c.as_slice-listed.result.now c.loop-at.at answer read c.as_slice-listed.ensures lt refl in
    let count : c.row_count-count.result ≡ rows_for answer.side = c.row_count-count.ensures [] answer.pair ∙ rows_for-length [] answer.pair answer.side in
    omega (arith, c.loop-at.invariant, count, c.if-left-count.false, rows_in-more c.args.answers.now.answers c.loop-at.at answer lt here)
