use Rattle.std.proofs.Common.{◌≡◌, List, [], length, ap, sym, subst, rules, arith}
use Rattle.std.specs.Prelude.{vec_len}
use Rattle.shared_survey.specs.declared.bench.SurveyBench.{SurveyBench}
use Rattle.shared_survey.specs.declared.pass.Pass.{Pass}
use Rattle.shared_survey.specs.declared.survey.Survey.{Survey}
use Rattle.shared_survey.specs.Passes.{IsPassOf}
use Rattle.survey_hall.specs.EliminatorBenches.{IsBenchOf}
use Rattle.survey_hall.specs.EliminatorSeats.{HoldsPass}
use Rattle.survey_hall.proofs.StackLemmas.{IsPart, all_back, all_stacked, comes_back, last_length, stacked_length}
use Rattle.survey_hall.proofs.eliminator_seats.give_back.Goals as goal

pub loop-bench-init : goal.loop-bench-init
loop-bench-init g c =
    let surveys = c.args.surveys.now.items in
    let benches = c.args.benches.list.items in
    let a : vec_len c.args.passes.now ≡ length c.args.passes.now.items = search rules in
    let b : vec_len c.args.surveys.now ≡ length surveys = search rules in
    let e : vec_len c.args.benches.list ≡ length benches = search rules in
    let none : length c.args.passes.now.items ≡ 0 = ap (λ (l : List Pass). length l) c.requires.room.0 in
    record {
      part = subst (λ (l : List Pass). IsPart HoldsPass IsBenchOf surveys l benches) (sym c.requires.room.0)
          (all_stacked HoldsPass IsBenchOf surveys benches c.requires.benches);
      count = omega (arith, a, b, e, none, stacked_length IsBenchOf surveys benches c.requires.benches);
      room = c.requires.room.1;
    }

pub loop-bench-preserved : goal.loop-bench-preserved
loop-bench-preserved g c =
    let inv = c.loop-bench.invariant in
    let surveys = c.args.surveys.now.items in
    let old = c.loop-bench.benches.list.items in
    let new = c.pop.new.self.list.items in
    let bench = c.in-Some.bench in
    let pass = c.into_pass.result in
    let a : vec_len c.loop-bench.passes ≡ length c.loop-bench.passes.items = search rules in
    let b : vec_len c.loop-bench.benches.list ≡ length old = search rules in
    let e : vec_len c.pop.new.self.list ≡ length new = search rules in
    record {
      part = subst (λ (l : List Pass). IsPart HoldsPass IsBenchOf surveys l new) (sym c.push_reserved.ensures.items)
          (comes_back HoldsPass IsBenchOf surveys c.loop-bench.passes.items new bench pass
          (subst (λ (l : List (SurveyBench g.row.R.Denot)). IsPart HoldsPass IsBenchOf surveys c.loop-bench.passes.items l) c.in-Some.ensures.popped inv.part)
          (λ survey one. subst (λ (s : Survey). IsPassOf s pass) one c.into_pass.ensures.pass));
      count = omega (arith, a, b, e, inv.count, c.push_reserved.ensures.len, last_length old new bench c.in-Some.ensures.popped);
      room = omega (arith, inv.room, c.push_reserved.ensures.capacity);
    }

pub returns : goal.returns
returns g c =
    let none : c.loop-bench.benches.list.items ≡ [] = (rw c.in_default.is at c.pop.ensures.popped).0 in
    all_back HoldsPass IsBenchOf c.args.surveys.now.items c.loop-bench.passes.items
    (subst (λ (l : List (SurveyBench g.row.R.Denot)). IsPart HoldsPass IsBenchOf c.args.surveys.now.items c.loop-bench.passes.items l) none c.loop-bench.invariant.part)
