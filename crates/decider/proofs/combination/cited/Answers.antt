use Rattle.std.proofs.Common.{◌≡◌, ℕ, ◌+◌, List, [], Some, get_or, refl, sym, ap, subst, ◌∙◌, arith}
use Rattle.std.specs.Prelude.{slice_get}
use Rattle.farkas_check.specs.declared.cites.Cite.{Cite}
use Rattle.simplex.proofs.Sizes.{kept}
use Rattle.decider.specs.Combining.{rows_for, with_cite, CitesRows}
use Rattle.decider.proofs.AnswerRows.{listed_at}
use Rattle.decider.proofs.Citing.{CitedSoFar, rows_for-length, cited_none, cited_more, cited_all, next_row}
use Rattle.decider.proofs.combination.cited.Goals as goal

pub loop-at-init : goal.loop-at-init
loop-at-init c = subst (CitedSoFar c.args.answers.now.answers c.args.rows.now 0 1 0) (sym c.none-list.ensures) (cited_none c.args.answers.now.answers c.args.rows.now c.requires.rows)

pub overflow_add-row : goal.overflow_add-row
overflow_add-row c =
    let answer = get_or c.as_slice-listed.result.now c.loop-at.at c.index-listed-at.result in
    let here : slice_get c.args.answers.now.answers c.loop-at.at ≡ Some answer =
    listed_at c.args.answers.now.answers c.as_slice-listed.result.now c.loop-at.at answer c.index-listed-at.result c.as_slice-listed.ensures
    (omega (arith, c.len-at-end.ensures.value, c.loop-at-test.true)) refl in
    let count : c.row_count-row.result ≡ rows_for answer.side = c.row_count-row.ensures [] answer.pair
    ∙ rows_for-length [] answer.pair answer.side in
    omega (
      arith,
      next_row c.args.answers.now.answers c.args.rows.now c.loop-at.at c.loop-at.row c.loop-at.taken c.loop-at.list answer
          (omega (arith, c.len-at-end.ensures.value)) here c.loop-at.invariant,
      c.requires.small,
    )

pub loop-at-preserved : goal.loop-at-preserved
loop-at-preserved c =
    let answer = get_or c.as_slice-listed.result.now c.loop-at.at c.index-listed-at.result in
    let here : slice_get c.args.answers.now.answers c.loop-at.at ≡ Some answer =
    listed_at c.args.answers.now.answers c.as_slice-listed.result.now c.loop-at.at answer c.index-listed-at.result c.as_slice-listed.ensures
    (omega (arith, c.len-at-end.ensures.value, c.loop-at-test.true)) refl in
    let count : c.row_count-row.result ≡ rows_for answer.side = c.row_count-row.ensures [] answer.pair
    ∙ rows_for-length [] answer.pair answer.side in
    let size = c.ranking_weight-weight.ensures.size in
    let new : with_cite c.loop-at.list (c.loop-at.at + 1) c.ranking_weight-weight.result.0 ≡ c.add.new.self =
    sym (c.add.ensures ∙ ap (with_cite c.loop-at.list (c.loop-at.at + 1)) (kept c.ranking_weight-weight.result.0 (omega arith))) in
    subst (λ (n : ℕ). CitedSoFar c.args.answers.now.answers c.args.rows.now (c.loop-at.at + 1) (c.loop-at.row + n) (c.loop-at.taken + c.ranking_weight-weight.result.1) c.add.new.self) (sym count)
    (subst (λ (l : List Cite). CitedSoFar c.args.answers.now.answers c.args.rows.now (c.loop-at.at + 1) (c.loop-at.row + rows_for answer.side)
    (c.loop-at.taken + c.ranking_weight-weight.result.1) l) new
    (cited_more c.args.answers.now.answers c.args.rows.now c.loop-at.at c.loop-at.row c.loop-at.taken c.ranking_weight-weight.result.1 c.loop-at.list answer
    c.ranking_weight-weight.result.0
    (omega (arith, c.len-at-end.ensures.value)) here c.ranking_weight-weight.ensures c.loop-at.invariant))

pub returns : goal.returns
returns c =
    subst (CitesRows c.args.answers.now.answers c.args.rows.now) (sym c.cites.ensures)
    (cited_all c.args.answers.now.answers c.args.rows.now c.loop-at.at c.loop-at.row c.loop-at.taken c.loop-at.list (omega (arith, c.len-at-end.ensures.value)) c.requires.within c.loop-at.invariant)
