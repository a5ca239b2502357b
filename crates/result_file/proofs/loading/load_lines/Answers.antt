use Rattle.std.proofs.Common.{ℕ, List, Option, arith, refl, sym, subst, ◌∙◌}
use Rattle.edges.specs.Lines.{ahead}
use Rattle.result_file.specs.Loaded.{IsAtFront, IsLoaded}
use Rattle.result_file.proofs.LoadLemmas.{head_in, next_in, ended_survey, ended_at_front, whole_survey, ending_faults, ending_loaded}
use Rattle.result_file.proofs.VerdictLaws.{few_come}
use Rattle.result_file.proofs.loading.load_lines.Goals as goal

pub loop-progress-init : goal.loop-progress-init
loop-progress-init g c = record { longest = c.requires.longest; come = head_in c.args.format _; quiet = refl }

pub loop-progress-preserved : goal.loop-progress-preserved
loop-progress-preserved g c = record {
  longest = c.in-Ok.ensures.longest ∙ c.loop-progress.invariant.longest;
  come =
      next_in c.args.format _ _ _ c.loop-progress.number _ c.next_progress.new.progress c.next_progress.new.lines.line c.loop-progress.invariant.come
      (c.in-Ok.ensures.next _ c.loop-progress.invariant.come.come)
      (λ has. let yes = c.has_ended.ensures.1 has in let no = c.if-has_ended.false in absurd cc);
  quiet = c.in-Ok.ensures.quiet ∙ c.loop-progress.invariant.quiet;
}

pub overflow_add-number : goal.overflow_add-number
overflow_add-number g c = omega (arith, few_come _ _ _ _ c.loop-progress.invariant.come.come)

pub loop-progress-smaller : goal.loop-progress-smaller
loop-progress-smaller g c = omega (arith, few_come _ _ _ _ c.loop-progress.invariant.come.come)

pub file_of-requires : goal.file_of-requires
file_of-requires g c =
    ended_survey c.args.format _ _ _ c.loop-progress.number _ c.next_progress.new.progress c.next_progress.new.lines.line c.loop-progress.invariant.come
    (c.in-Ok.ensures.next _ c.loop-progress.invariant.come.come) (c.has_ended.ensures.0 c.if-has_ended.true)

pub returns-then-has_ended-clause-loaded : goal.returns-then-has_ended-clause-loaded
returns-then-has_ended-clause-loaded g c = λ text told.
    subst (λ (t : Option (List ℕ)). IsAtFront t (ahead c.next_progress.new.lines (g.S.Source.left c.next_progress.new.source)) c.args.skipped c.file_of.result) (sym told)
    (ended_at_front c.args.format _ _ _ c.loop-progress.number _ c.next_progress.new.progress c.next_progress.new.lines.line c.loop-progress.invariant.come
    (c.in-Ok.ensures.next _ c.loop-progress.invariant.come.come) (c.has_ended.ensures.0 c.if-has_ended.true)
    c.args.skipped c.file_of.result c.requires.skipped c.file_of.ensures.lines c.file_of.ensures.survey)

pub ended-requires : goal.ended-requires
ended-requires g c =
    let there = c.in-Err.ensures.verdict _ c.loop-progress.invariant.come.come in
    record {
      before = c.requires.before;
      number = few_come _ _ _ _ c.loop-progress.invariant.come.come;
      skipped = omega (arith, c.requires.skipped, c.loop-progress.invariant.come.come.number);
      line = there.line;
      whole = λ accepted. whole_survey c.args.format _ _ _ (g.S.Source.left c.next_progress.new.source) c.loop-progress.number _ c.next_progress.new.progress c.next_progress.new.lines.line c.in-Err.verdict c.loop-progress.invariant.come (c.in-Err.ensures.piece accepted);
    }

pub returns-in-Err-clause-loaded : goal.returns-in-Err-clause-loaded
returns-in-Err-clause-loaded g c = λ text told.
    subst (λ (t : Option (List ℕ)). IsLoaded t (ahead c.next_progress.new.lines (g.S.Source.left c.next_progress.new.source)) c.args.before c.args.skipped c.ended.result) (sym told)
    (ending_loaded c.args.format _ _ _ _ (g.S.Source.left c.next_progress.new.source) c.loop-progress.number c.args.before c.args.skipped _ c.next_progress.new.progress c.next_progress.new.lines.line c.in-Err.verdict c.ended.result refl
    c.requires.skipped c.loop-progress.invariant.come (c.in-Err.ensures.verdict _ c.loop-progress.invariant.come.come) c.in-Err.ensures.piece c.ended.ensures)

pub returns-in-Err-clause-faults : goal.returns-in-Err-clause-faults
returns-in-Err-clause-faults g c =
    rw c.loop-progress.invariant.quiet at (ending_faults c.next_progress.new.progress c.args.before c.args.skipped c.loop-progress.number _ _ c.in-Err.verdict c.ended.result c.ended.ensures c.in-Err.ensures.faults)
