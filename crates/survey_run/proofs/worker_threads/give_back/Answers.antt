use Rattle.std.proofs.Common.{◌≡◌, ◌∙◌, ℕ, List, [], ◌∷◌, ◌++◌, All, ap, sym, subst, rules, arith}
use Rattle.std.specs.Prelude.{vec_len}
use Rattle.survey_replies.specs.Calls.{Seen, HasEliminateOf}
use Rattle.shared_survey.specs.declared.bench.BenchAbout.{BenchAbout}
use Rattle.shared_survey.specs.declared.pass.Pass.{Pass}
use Rattle.shared_survey.specs.Passes.{IsPassOf}
use Rattle.survey_run.specs.Workers.{HasWorked, HasWorkedAt}
use Rattle.survey_run.proofs.EachLemmas.{IsPartStacked, all_stacked, all_zip_from, none_stacked, one_more_stacked, pop_length}
use Rattle.survey_run.proofs.worker_threads.give_back.Goals as goal

pub loop-bench-init : goal.loop-bench-init
loop-bench-init g c =
    let zero : vec_len c.args.back ≡ 0 = search rules in
    record {
      stacked = λ worker surveys each. subst (λ (back : List Pass). IsPartStacked (λ n. HasWorkedAt worker) (λ n. HasWorked worker) surveys c.args.benches.list.items back) (sym c.requires.room.0)
          (none_stacked (λ n. HasWorkedAt worker) (λ n. HasWorked worker) surveys c.args.benches.list.items (all_zip_from (HasWorkedAt worker) 0 surveys c.args.benches.list.items each));
      room = omega (arith, zero, c.requires.room.1);
    }

pub loop-bench-preserved : goal.loop-bench-preserved
loop-bench-preserved g c =
    let inv = c.loop-bench.invariant in
    let bench = c.in-Some.bench in
    let pass = c.into_pass.result in
    let old = c.loop-bench.benches.list.items in
    let new = c.pop.new.self.list.items in
    let items : old ≡ new ++ bench ∷ [] = c.in-Some.ensures.popped in
    let shorter = pop_length old new bench items in
    record {
      stacked = λ worker surveys each. subst (λ (back : List Pass). IsPartStacked (λ n. HasWorkedAt worker) (λ n. HasWorked worker) surveys new back) (sym c.push_reserved.ensures.items)
          (one_more_stacked (λ n. HasWorkedAt worker) (λ n. HasWorked worker) surveys new c.loop-bench.back.items bench pass
          (λ n survey at. record {
            of = subst (λ (about : BenchAbout). IsPassOf about.survey pass) at.about c.into_pass.ensures.pass;
            weight = c.into_pass.ensures.weight ∙ ap {B = ℕ} (λ (about : BenchAbout). about.weight) at.about;
            made = subst (λ (s : Seen). All (HasEliminateOf worker s.journal) s.own) (sym c.into_pass.ensures.seen) at.made;
          })
          (subst (λ left. IsPartStacked (λ n. HasWorkedAt worker) (λ n. HasWorked worker) surveys left c.loop-bench.back.items) items (inv.stacked worker surveys each)));
      room = omega (arith, inv.room, shorter, c.push_reserved.ensures.len, c.push_reserved.ensures.capacity);
    }

pub returns : goal.returns
returns g c =
    let left = c.loop-bench.benches.list.items in
    let none : left ≡ [] = (rw c.in_default.is at c.pop.ensures.popped).0 in
    λ worker surveys each. all_stacked (λ n. HasWorkedAt worker) (λ n. HasWorked worker) surveys left c.loop-bench.back.items none (c.loop-bench.invariant.stacked worker surveys each)
