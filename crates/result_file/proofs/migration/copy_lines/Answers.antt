use Rattle.std.proofs.Common.{arith, refl, ◌∙◌}
use Rattle.result_file.proofs.CopyLemmas.{head_come, copied_none, copied_line, finished, quiet_by, faults_by, memory_faults}
use Rattle.result_file.proofs.VerdictLaws.{few_come, told_checked}
use Rattle.result_file.proofs.migration.copy_lines.Goals as goal

pub loop-verdict-init : goal.loop-verdict-init
loop-verdict-init g c = record {
  longest = c.requires;
  come = head_come c.args.format _;
  copied = copied_none _ c.in-Ok.copy.items c.in-Ok.ensures;
  quiet = refl;
}

pub loop-verdict-preserved : goal.loop-verdict-preserved
loop-verdict-preserved g c = record {
  longest = c.in-Ok-next_progress.ensures.longest ∙ c.loop-verdict.invariant.longest;
  come = (c.in-Ok-next_progress.ensures.next _ c.loop-verdict.invariant.come).come;
  copied = copied_line _ _ _ c.loop-verdict.copy.items c.copy_line.new.copy.items c.next_progress.new.lines c.loop-verdict.invariant.copied c.in-Ok-next_progress.ensures.line (rw c.line-in-loop-verdict.ensures at c.in-Ok-copy_line.ensures);
  quiet = c.in-Ok-next_progress.ensures.quiet ∙ c.loop-verdict.invariant.quiet;
}

pub overflow_add-number : goal.overflow_add-number
overflow_add-number g c = omega (arith, few_come _ _ _ _ c.loop-verdict.invariant.come)

pub loop-verdict-smaller : goal.loop-verdict-smaller
loop-verdict-smaller g c = omega (arith, few_come _ _ _ _ c.loop-verdict.invariant.come)

pub returns-in-Err-next_progress-clause-migrated : goal.returns-in-Err-next_progress-clause-migrated
returns-in-Err-next_progress-clause-migrated g c = λ text told.
    finished c.args.format text _ _ _ c.end_copy.result c.in-Err-next_progress.verdict c.loop-verdict.copy.items c.next_progress.new.lines.line told c.loop-verdict.invariant.copied _ _ _
    c.in-Err-next_progress.ensures.piece (rw told (told_checked _ _ _ _ (c.in-Err-next_progress.ensures.verdict _ c.loop-verdict.invariant.come))) (rw c.line.ensures at c.end_copy.ensures.copied) c.end_copy.ensures.refused

pub returns-in-Err-next_progress-clause-quiet : goal.returns-in-Err-next_progress-clause-quiet
returns-in-Err-next_progress-clause-quiet g c =
    rw c.loop-verdict.invariant.quiet at (quiet_by c.end_copy.result c.in-Err-next_progress.verdict c.loop-verdict.copy.items c.line.result.now _ _ c.end_copy.ensures.copied c.in-Err-next_progress.ensures.faults)

pub returns-in-Err-next_progress-clause-faults : goal.returns-in-Err-next_progress-clause-faults
returns-in-Err-next_progress-clause-faults g c =
    rw c.loop-verdict.invariant.quiet at (faults_by c.end_copy.result c.in-Err-next_progress.verdict _ _ c.end_copy.ensures.refused c.in-Err-next_progress.ensures.faults)

pub returns-in-Err-copy_line-clause-faults : goal.returns-in-Err-copy_line-clause-faults
returns-in-Err-copy_line-clause-faults g c = memory_faults _ _ (c.in-Ok-next_progress.ensures.quiet ∙ c.loop-verdict.invariant.quiet)
