use Rattle.survey_state.proofs.FindingLemmas.{all_met}
use Rattle.survey_state.proofs.findings.still_open.Goals as goal

pub returns-then-meets_from : goal.returns-then-meets_from
returns-then-meets_from c met = record {
  plus_meets =
      all_met c.args.model.now.levels c.args.answers.now.answers c.args.kept.now.met c.args.kept.now.plus c.requires.opens.1.plus_meets
      (c.meets_from.ensures.0 c.if-meets_from.true);
  minus_meets =
      all_met c.args.model.now.levels c.args.answers.now.answers c.args.kept.now.met c.args.kept.now.minus c.requires.opens.1.minus_meets
      (c.meets_from-then-meets_from.ensures.0 met);
  more = c.requires.opens.1.more;
  less = c.requires.opens.1.less;
}
