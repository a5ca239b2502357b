use Rattle.std.proofs.Common.{◌≡◌, ◌<◌, ◌+◌, ◌-◌, Some, length, length-append, take, ap, ◌∙◌, arith}
use Rattle.std.specs.Prelude.{slice_get}
use Rattle.decider.specs.Standing.{rows_of}
use Rattle.decider.proofs.Citing.{rows_for-length, rows_in-more}
use Rattle.decider.proofs.CitedGains.{rows_length}
use Rattle.decider.proofs.Standings.{rows_len-most}
use Rattle.decider.proofs.tested.add_rest.Goals as goal

pub add_rows-requires-clause-room : goal.add_rows-requires-clause-room
add_rows-requires-clause-room c =
    omega (
      arith,
      c.loop-at.invariant.rows,
      c.loop-at.invariant.room.rows,
      c.requires.room.rows,
      c.len-at-end.ensures.value,
      c.loop-at-test.true,
      rows_length c.args.model.now.levels (take c.loop-at.at c.args.answers.now.answers),
      rows_len-most c.args.model.now.levels c.args.answers.now.answers c.loop-at.at,
    )

pub loop-at-preserved : goal.loop-at-preserved
loop-at-preserved c =
    let levels = c.args.model.now.levels in
    let answer = c.answer-answer.result in
    let place : c.loop-at.at + 1 - 1 ≡ c.loop-at.at = omega arith in
    let lt : c.loop-at.at < length c.args.answers.now.answers = omega (arith, c.len-at-end.ensures.value, c.loop-at-test.true) in
    let here : slice_get c.args.answers.now.answers c.loop-at.at ≡ Some answer = rw place at c.answer-answer.ensures in
    record {
      rows = omega (
        arith,
        ap length c.add_rows.ensures.loaded,
        length-append c.loop-at.work.loaded (rows_of levels answer.pair answer.side),
        rows_for-length levels answer.pair answer.side,
        c.loop-at.invariant.rows,
        rows_in-more c.args.answers.now.answers c.loop-at.at answer lt here,
      );
      columns = c.add_rows.ensures.columns ∙ c.loop-at.invariant.columns;
      room = record {
        columns = c.add_rows.ensures.room.columns ∙ c.loop-at.invariant.room.columns;
        rows = c.add_rows.ensures.room.rows ∙ c.loop-at.invariant.room.rows;
      };
    }
