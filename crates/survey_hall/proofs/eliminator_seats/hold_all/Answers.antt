use Rattle.std.proofs.Common.{◌≡◌, ◌∙◌, List, [], length, ap, sym, subst, rules, arith}
use Rattle.std.specs.Prelude.{vec_len}
use Rattle.shared_survey.specs.declared.bench.BenchAbout.{BenchAbout}
use Rattle.shared_survey.specs.declared.bench.SurveyBench.{SurveyBench}
use Rattle.shared_survey.specs.declared.pass.Pass.{Pass}
use Rattle.survey_hall.specs.EliminatorBenches.{IsBenchOf}
use Rattle.survey_hall.specs.EliminatorSeats.{HoldsPass}
use Rattle.survey_hall.proofs.StackLemmas.{IsPart, all_moved, last_length, next_at, none_moved, zip_length}
use Rattle.survey_hall.proofs.eliminator_seats.hold_all.Goals as goal

pub loop-pass-init : goal.loop-pass-init
loop-pass-init g c =
    let surveys = c.args.surveys.now.items in
    let passes = c.args.passes.now.items in
    let a : vec_len c.args.passes.now ≡ length passes = search rules in
    let b : vec_len c.args.surveys.now ≡ length surveys = search rules in
    let e : vec_len c.args.benches.list ≡ length c.args.benches.list.items = search rules in
    let none : length c.args.benches.list.items ≡ 0 = ap (λ (l : List (SurveyBench g.row.R.Denot)). length l) c.requires.benches.0 in
    record {
      part = subst (λ (l : List (SurveyBench g.row.R.Denot)). IsPart HoldsPass IsBenchOf surveys passes l) (sym c.requires.benches.0)
          (none_moved HoldsPass IsBenchOf surveys passes c.requires.passes);
      count = omega (arith, a, b, e, none, zip_length HoldsPass surveys passes c.requires.passes);
      room = c.requires.benches.1;
      capacity = search rules;
    }

pub hold-requires-clause-pass : goal.hold-requires-clause-pass
hold-requires-clause-pass g c κs within =
    let surveys = c.args.surveys.now.items in
    let left = c.pop.new.self.items in
    let long : c.len.result ≡ length left = search rules in
    let n = next_at HoldsPass IsBenchOf surveys left c.in-Some.pass c.loop-pass.benches.list.items c.index-survey.result.now c.len.result
    (subst (λ (l : List Pass). IsPart HoldsPass IsBenchOf surveys l c.loop-pass.benches.list.items) c.in-Some.ensures.items c.loop-pass.invariant.part)
    c.index-survey.ensures long in
    rw c.deref.ensures n.0

pub loop-pass-preserved : goal.loop-pass-preserved
loop-pass-preserved g c =
    let inv = c.loop-pass.invariant in
    let surveys = c.args.surveys.now.items in
    let left = c.pop.new.self.items in
    let benches = c.loop-pass.benches.list.items in
    let long : c.len.result ≡ length left = search rules in
    let n = next_at HoldsPass IsBenchOf surveys left c.in-Some.pass benches c.index-survey.result.now c.len.result
    (subst (λ (l : List Pass). IsPart HoldsPass IsBenchOf surveys l benches) c.in-Some.ensures.items inv.part) c.index-survey.ensures long in
    let a : vec_len c.pop.new.self ≡ length left = search rules in
    let b : vec_len c.loop-pass.passes ≡ length c.loop-pass.passes.items = search rules in
    let d : vec_len c.push.new.self.list ≡ length c.push.new.self.list.items = search rules in
    let e : vec_len c.loop-pass.benches.list ≡ length benches = search rules in
    record {
      part = subst (λ (l : List (SurveyBench g.row.R.Denot)). IsPart HoldsPass IsBenchOf surveys left l) (sym c.push.ensures.pushed)
          (n.1 c.hold.result (ap (λ (about : BenchAbout). about.survey) c.hold.ensures.about ∙ c.deref.ensures));
      count = omega (
        arith,
        a,
        b,
        d,
        e,
        inv.count,
        last_length c.loop-pass.passes.items left c.in-Some.pass c.in-Some.ensures.items,
        last_length c.push.new.self.list.items benches c.hold.result c.push.ensures.pushed,
      );
      room = omega (arith, inv.room, c.push.ensures.room);
      capacity = c.in-Some.ensures.capacity ∙ inv.capacity;
    }

pub returns-clause-benches : goal.returns-clause-benches
returns-clause-benches g c =
    let none : c.loop-pass.passes.items ≡ [] = search rules in
    all_moved HoldsPass IsBenchOf c.args.surveys.now.items c.loop-pass.benches.list.items
    (subst (λ (l : List Pass). IsPart HoldsPass IsBenchOf c.args.surveys.now.items l c.loop-pass.benches.list.items) none c.loop-pass.invariant.part)
