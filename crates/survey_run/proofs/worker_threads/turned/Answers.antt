use Rattle.std.proofs.Common.{◌≡◌, List, [], ◌∷◌, ◌++◌, length, sym, subst, rules, arith}
use Rattle.std.specs.Prelude.{vec_len}
use Rattle.shared_survey.specs.declared.pass.Pass.{Pass}
use Rattle.survey_run.specs.Workers.{HasWorked, IsFreshPass}
use Rattle.survey_run.proofs.EachLemmas.{IsPartStacked, all_stacked, all_zip_from, none_stacked, one_more_stacked, pop_length}
use Rattle.survey_run.proofs.WorkerLemmas.{fresh_worked}
use Rattle.survey_run.proofs.worker_threads.turned.Goals as goal

pub loop-pass-init : goal.loop-pass-init
loop-pass-init c =
    let zero : vec_len c.args.back ≡ 0 = search rules in
    record {
      stacked = λ worker surveys each. subst (λ (back : List Pass). IsPartStacked (λ n. IsFreshPass) (λ n. HasWorked worker) surveys c.args.passes.items back) (sym c.requires.room.0)
          (none_stacked (λ n. IsFreshPass) (λ n. HasWorked worker) surveys c.args.passes.items (all_zip_from IsFreshPass 0 surveys c.args.passes.items each));
      room = omega (arith, zero, c.requires.room.1);
    }

pub loop-pass-preserved : goal.loop-pass-preserved
loop-pass-preserved c =
    let inv = c.loop-pass.invariant in
    let pass = c.in-Some.pass in
    let old = c.loop-pass.passes in
    let new = c.pop.new.self in
    let items : old.items ≡ new.items ++ pass ∷ [] = c.in-Some.ensures.items in
    let shorter = pop_length old.items new.items pass items in
    let a : vec_len old ≡ length old.items = search rules in
    let b : vec_len new ≡ length new.items = search rules in
    record {
      stacked = λ worker surveys each. subst (λ (back : List Pass). IsPartStacked (λ n. IsFreshPass) (λ n. HasWorked worker) surveys new.items back) (sym c.push_reserved.ensures.items)
          (one_more_stacked (λ n. IsFreshPass) (λ n. HasWorked worker) surveys new.items c.loop-pass.back.items pass pass (λ n survey. fresh_worked worker survey pass)
          (subst (λ (left : List Pass). IsPartStacked (λ n. IsFreshPass) (λ n. HasWorked worker) surveys left c.loop-pass.back.items) items (inv.stacked worker surveys each)));
      room = omega (arith, inv.room, shorter, a, b, c.push_reserved.ensures.len, c.push_reserved.ensures.capacity);
    }

pub returns : goal.returns
returns c =
    let none : c.loop-pass.passes.items ≡ [] = search rules in
    λ worker surveys each. all_stacked (λ n. IsFreshPass) (λ n. HasWorked worker) surveys c.loop-pass.passes.items c.loop-pass.back.items none (c.loop-pass.invariant.stacked worker surveys each)
