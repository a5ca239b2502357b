use Rattle.std.proofs.Common.{◌≡◌, ◌-◌, ◌≤◌, length, get_or, All, ℤ, unsigned_abs, to_z, of_z, ap, subst, sym, ◌∙◌, arith}
use Rattle.std.specs.Int.{w128}
use Rattle.std.proofs.lemmas.Int.{to_z-of_z, fits_signed_from_abs}
use Rattle.std.proofs.lemmas.List.{take_all}
use Rattle.std.proofs.lemmas.Option.{slice_get_read}
use Rattle.criteria_model.specs.declared.pairs.Answer.{Answer}
use Rattle.row_laws.specs.Rows.{entry, plus, times}
use Rattle.criteria_model.specs.Pairs.{IsFit}
use Rattle.criteria_model.specs.Answers.{gain}
use Rattle.criteria_model.specs.Lists.{IsRow}
use Rattle.criteria_model.proofs.GainLemmas.{length-gain, gain-fits}
use Rattle.farkas_check.specs.declared.cites.Cite.{Cite}
use Rattle.farkas_check.specs.Cited.{IsCite, no_cite}
use Rattle.farkas_check.specs.Sums.{cited_gain}
use Rattle.farkas_check.specs.Proof.{IsThere}
use Rattle.farkas_check.proofs.SumLemmas.{total, entry-total, cited_gain-there, AreTotals-more}
use Rattle.farkas_check.proofs.sums.add_cites.Goals as goal

-- ---- this turn's cite and its answer
module _ (c : goal.After-sums-1) where
  abbrev cite : Cite
  cite = get_or c.args.cites.now c.loop-cite.cite-index no_cite

  abbrev answer : Answer
  answer = c.index-answers-cite.result

  is_cite : IsCite cite
  is_cite = c.requires.cites.each c.loop-cite.cite-index no_cite c.loop-cite-test.true

  is_there : IsThere c.args.answers.now cite
  is_there = c.requires.there c.loop-cite.cite-index no_cite c.loop-cite-test.true

  is_fit : IsFit c.args.model.now.levels answer.pair
  is_fit =
      subst (λ (a : Answer). IsFit c.args.model.now.levels a.pair) (sym c.index-answers-cite.is)
      (c.requires.answers_fit (cite.answer - 1) answer (omega (arith, is_there.0, is_there.1)))

  gain_is : cited_gain c.args.model.now.levels c.args.answers.now cite ≡ gain c.args.model.now.levels answer.pair answer.side
  gain_is =
      cited_gain-there c.args.model.now.levels c.args.answers.now cite answer
      (slice_get_read c.args.answers.now (length c.args.answers.now) (cite.answer - 1) answer (λ _. length c.args.answers.now) (omega (arith, is_there.0, is_there.1)) c.index-answers-cite.is)

  row : IsRow (gain c.args.model.now.levels answer.pair answer.side)
  row = gain-fits c.args.model.now answer.pair answer.side c.requires.model is_fit

pub loop-cite-preserved : goal.loop-cite-preserved
loop-cite-preserved c =
    let weight_is : to_z w128 (of_z w128 (cite c).weight) ≡ (cite c).weight =
    to_z-of_z w128 (cite c).weight (fits_signed_from_abs w128 (cite c).weight (omega (arith, (is_cite c).within))) in
    let added : c.add_answer.new.sums ≡ plus c.loop-cite.sums (times (cite c).weight (cited_gain c.args.model.now.levels c.args.answers.now (cite c))) =
    rw (weight_is, ← gain_is c) at c.add_answer.ensures in
    let unit : All (λ (x : ℤ). unsigned_abs x ≤ 1) (cited_gain c.args.model.now.levels c.args.answers.now (cite c)) = rw (gain_is c) (row c).within in
    rw added
    (AreTotals-more c.args.model.now.levels c.args.answers.now c.args.sums.now c.args.cites.now c.loop-cite.cite-index c.loop-cite.sums no_cite
    c.loop-cite.invariant c.loop-cite-test.true (is_cite c).within unit
    (omega (arith, ap length (gain_is c), length-gain c.args.model.now.levels (answer c).pair (answer c).side (is_fit c), c.requires.len, c.loop-cite.auto.sums)))

pub returns : goal.returns
returns c place =
    let whole = take_all c.loop-cite.cite-index c.args.cites.now (omega (arith, c.loop-cite-test.false, c.loop-cite.auto)) in
    ap (λ row. entry row place) (c.loop-cite.invariant.sum ∙ ap (total c.args.model.now.levels c.args.answers.now c.args.sums.now) whole)
    ∙ entry-total c.args.model.now.levels c.args.answers.now c.args.sums.now c.args.cites.now place
