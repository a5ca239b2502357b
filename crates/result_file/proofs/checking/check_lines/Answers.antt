use Rattle.std.proofs.Common.{arith, refl, ◌∙◌}
use Rattle.result_file.proofs.VerdictLaws.{few_come, none_come, told_checked}
use Rattle.result_file.proofs.checking.check_lines.Goals as goal

pub loop-verdict-init : goal.loop-verdict-init
loop-verdict-init g c = record {
  longest = c.requires.longest;
  come = none_come c.args.lines (g.S.Source.left c.args.source.now) c.requires.none_kept;
  quiet = refl;
}

pub overflow_add-number : goal.overflow_add-number
overflow_add-number g c = omega (arith, few_come _ _ _ _ c.loop-verdict.invariant.come)

pub loop-verdict-smaller : goal.loop-verdict-smaller
loop-verdict-smaller g c = omega (arith, few_come _ _ _ _ c.loop-verdict.invariant.come)

pub loop-verdict-preserved : goal.loop-verdict-preserved
loop-verdict-preserved g c = record {
  longest = c.in-Ok.ensures.longest ∙ c.loop-verdict.invariant.longest;
  come = (c.in-Ok.ensures.next _ c.loop-verdict.invariant.come).come;
  quiet = c.in-Ok.ensures.quiet ∙ c.loop-verdict.invariant.quiet;
}

pub returns-in-Err-clause-checked : goal.returns-in-Err-clause-checked
returns-in-Err-clause-checked g c = told_checked _ _ _ _ (c.in-Err.ensures.verdict _ c.loop-verdict.invariant.come)
