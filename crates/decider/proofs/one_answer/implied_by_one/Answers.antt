use Rattle.std.proofs.Common.{◌≡◌, ℕ, ◌+◌, ◌-◌, Some, get_or, unsigned_abs, below_more, sym, ap, subst, ◌∙◌, arith}
use Rattle.std.specs.Prelude.{slice_get}
use Rattle.std.proofs.lemmas.Bool.{true≢false}
use Rattle.std.proofs.lemmas.Option.{slice_get-get_or}
use Rattle.criteria_model.specs.declared.pairs.Answer.{Answer}
use Rattle.criteria_model.specs.Answers.{Meets}
use Rattle.decider.specs.OneAnswer.{Suffices}
use Rattle.decider.proofs.AnswerRows.{All-found, listed_at}
use Rattle.decider.proofs.Decided.{proved_decision, unit_scale_reduced}
use Rattle.decider.proofs.one_answer.implied_by_one.Goals as goal
use Rattle.decider.proofs.one_answer.implied_by_one.Goals.{After-index-listed-at}

-- ---- this turn's answer
module _ (c : After-index-listed-at) where
  abbrev answer : Answer
  answer = c.index-listed-at.result

  found : slice_get c.args.answers.now.answers c.loop-at.at ≡ Some answer
  found =
      listed_at c.args.answers.now.answers c.as_slice-listed.result.now c.loop-at.at answer answer c.as_slice-listed.ensures
      (omega (arith, c.len-at-end.ensures.value, c.loop-at-test.true)) c.index-listed-at.is

pub loop-at-preserved : goal.loop-at-preserved
loop-at-preserved c =
    below_more (λ k. (answer : Answer) → slice_get c.args.answers.now.answers k ≡ Some answer → ¬ Suffices c.args.model.now.levels answer c.args.pair.now c.args.verdict) c.loop-at.at
    c.loop-at.invariant
    (λ other is suffices.
    let same : c.index-listed-at.result ≡ other = let here = found (goal.at.loop-at-preserved c).After-index-listed-at in cc in
    true≢false (sym (c.suffices.ensures.1 (subst (λ (a : Answer). Suffices c.args.model.now.levels a c.args.pair.now c.args.verdict) (sym same) suffices)) ∙ c.if-suffices.false))

pub returns-then-suffices-clause-implied : goal.returns-then-suffices-clause-implied
returns-then-suffices-clause-implied c =
    let at : c.loop-at.at + 1 - 1 ≡ c.loop-at.at = omega arith in
    proved_decision c.args.model.now.levels c.args.answers.now.answers c.args.pair.now c.args.verdict c.combination_with.result
    (c.combination_with.ensures.proves c.args.answers.now.answers (subst (λ (k : ℕ). slice_get c.args.answers.now.answers k ≡ Some c.index-listed-at.result) (sym at) (found (goal.at.returns-then-suffices-clause-implied c).After-index-listed-at)))
    (unit_scale_reduced c.combination_with.result c.combination_with.ensures.scale) (omega (arith, ap unsigned_abs c.combination_with.ensures.scale))

pub returns-then-suffices-clause-few : goal.returns-then-suffices-clause-few
returns-then-suffices-clause-few c =
    c.combination_with.ensures.few c.requires.satisfiable.0 c.requires.satisfiable.1.vector
    (All-found (Meets c.args.model.now.levels c.requires.satisfiable.0) c.args.answers.now.answers _ c.index-listed-at.result c.requires.satisfiable.1.each (found (goal.at.returns-then-suffices-clause-few c).After-index-listed-at))

pub returns-clause-none : goal.returns-clause-none
returns-clause-none c k answer lt suffices =
    c.loop-at.invariant k (omega arith) (get_or c.args.answers.now.answers k answer) (slice_get-get_or c.args.answers.now.answers k answer lt) suffices
