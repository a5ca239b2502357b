use Rattle.std.proofs.Common.{◌≤◌, pos, ap, ap₂, length, sym, subst, ◌∙◌}
use Rattle.std.specs.Prelude.{count_by}
use Rattle.criteria_model.specs.Lists.{IsRow}
use Rattle.row_laws.specs.Rows.{minus}
use Rattle.criteria_model.proofs.GainLemmas.{length-gain}
use Rattle.farkas_check.specs.Proof.{Proves}
use Rattle.simplex.specs.Weights.{is_weight}
use Rattle.decider.specs.Decisions.{weights_of}
use Rattle.decider.proofs.OneAnswers.{with_proves, few_with}
use Rattle.decider.proofs.one_answer.combination_with.Goals as goal

pub excess-increments-requires : goal.excess-increments-requires
excess-increments-requires c =
    ap length c.gain-gain.ensures ∙ length-gain c.args.model.now.levels c.args.pair.now c.args.verdict c.requires.pair_fits
    ∙ sym (ap length c.gain.ensures ∙ length-gain c.args.model.now.levels c.args.answer.now.pair c.args.answer.now.side c.requires.answer_fits)

pub returns-clause-proves : goal.returns-clause-proves
returns-clause-proves c answers is =
    subst (λ cites. Proves c.args.model.now.levels answers (record { scale = pos 1; increments = c.excess-increments.result; answers = cites }) c.args.pair.now c.args.verdict)
    (sym c.in-Some.ensures.value)
    (with_proves c.args.model.now.levels answers c.args.number c.args.answer.now c.args.pair.now c.args.verdict c.excess-increments.result
    c.requires.numbered is c.requires.answer_fits c.requires.pair_fits c.requires.suffices
    (c.excess-increments.ensures.value ∙ ap₂ minus c.gain-gain.ensures c.gain.ensures))

pub returns-clause-few : goal.returns-clause-few
returns-clause-few c values vector meets =
    subst (λ cites. count_by is_weight (weights_of (record { scale = pos 1; increments = c.excess-increments.result; answers = cites })) ≤ 24) (sym c.in-Some.ensures.value)
    (few_with c.args.model.now.levels values c.args.answer.now c.args.pair.now c.args.verdict c.excess-increments.result c.requires.answer_fits c.requires.pair_fits c.requires.suffices
    (subst IsRow c.gain-gain.ensures c.excess-increments.ensures.row) (c.excess-increments.ensures.value ∙ ap₂ minus c.gain-gain.ensures c.gain.ensures) vector meets)
