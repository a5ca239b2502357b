use Rattle.decider.proofs.Covering.{left_suffices, right_suffices}
use Rattle.decider.proofs.one_answer.suffices.Goals as goal

pub returns-in-Left : goal.returns-in-Left
returns-in-Left c =
    let same = left_suffices c.args.model.now.levels c.as_slice-left.result.now c.as_slice-right.result.now c.args.answer.now c.args.pair.now c.args.verdict
    c.as_slice-left.ensures.value c.as_slice-right.ensures.value c.in-Left.is c.requires.answer_fits c.requires.pair_fits in
    (λ covered. same.0 (c.covers_answer.ensures.0 covered), λ s. c.covers_answer.ensures.1 (same.1 s))

pub returns-in-Right : goal.returns-in-Right
returns-in-Right c =
    let same = right_suffices c.args.model.now.levels c.as_slice-right.result.now c.as_slice-left.result.now c.args.answer.now c.args.pair.now c.args.verdict
    c.as_slice-right.ensures.value c.as_slice-left.ensures.value c.in-Right.is c.requires.answer_fits c.requires.pair_fits in
    (λ covered. same.0 (c.covers_answer-in-Right.ensures.0 covered), λ s. c.covers_answer-in-Right.ensures.1 (same.1 s))
