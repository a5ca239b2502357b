use Rattle.std.proofs.Common.{◌≡◌, ◌∙◌, ◌+◌, suc, [], length, take, ap, refl, sym, subst, rules, arith}
use Rattle.std.specs.Prelude.{vec_len}
use Rattle.std.specs.List.{AllZip}
use Rattle.survey_replies.specs.Calls.{Seen}
use Rattle.survey_run.specs.Workers.{HoldsFresh, IsFreshPass}
use Rattle.survey_run.proofs.WorkerLemmas.{about_fresh}
use Rattle.survey_run.proofs.EachLemmas.{all_zip_at, all_zip_length, all_zip_push, pop_length, take_one_more}
use Rattle.survey_run.proofs.worker_threads.hold_all.Goals as goal

pub loop-pass-init : goal.loop-pass-init
loop-pass-init g c =
    let long = all_zip_length IsFreshPass c.args.surveys.now.items c.args.passes.items c.requires.passes in
    let a : vec_len c.args.passes ≡ length c.args.passes.items = search rules in
    let b : vec_len c.args.surveys.now ≡ length c.args.surveys.now.items = search rules in
    record {
      held = subst (AllZip (HoldsFresh c.args.number) []) (sym c.requires.empty) tt;
      count = search rules;
      passes = rw c.into_iter-pass-iterator.ensures.into_iter_gives.0 c.requires.passes;
      left = omega (arith, long, a, b, c.into_iter-pass-iterator.ensures.into_iter_gives.1);
      room = c.requires.room;
    }

pub loop-pass-preserved : goal.loop-pass-preserved
loop-pass-preserved g c =
    let inv = c.loop-pass.invariant in
    let surveys = c.args.surveys.now.items in
    let place = c.loop-pass.place in
    let survey = c.index.result.now in
    let bench = c.hold.result in
    let front = all_zip_at IsFreshPass surveys place survey c.in-Some.pass _ c.index.ensures (rw c.in-Some.ensures.steps.0 at inv.passes) in
    let made : HoldsFresh c.args.number survey bench = record {
      about = c.hold.ensures.about ∙ about_fresh survey c.args.number _ _ front.1.weight (ap (λ (s : Seen). s.own) front.1.seen);
      seen = c.hold.ensures.seen ∙ front.1.seen;
    } in
    let longer : place + 1 ≡ suc place = omega arith in
    record {
      held = rw (take_one_more surveys place (place + 1) survey refl front.0, c.push.ensures.pushed)
          (all_zip_push (HoldsFresh c.args.number) (take place surveys) c.loop-pass.benches.list.items survey bench inv.held made);
      count = omega (arith, inv.count, pop_length c.push.new.self.list.items c.loop-pass.benches.list.items bench c.push.ensures.pushed);
      passes = rw longer front.2;
      left = omega (arith, inv.left, c.in-Some.ensures.steps.1);
      room = search rules;
    }
