use Rattle.std.proofs.Common.{◌≡◌, ◌≤◌, ◌∙◌, length, ap, rules, arith}
use Rattle.std.specs.Prelude.{vec_capacity, vec_len}
use Rattle.eliminators.specs.Work.{Stays}
use Rattle.shared_survey.specs.declared.bench.BenchAbout.{BenchAbout}
use Rattle.shared_survey.specs.declared.bench.SurveyBench.{SurveyBench}
use Rattle.shared_survey.specs.declared.survey.Survey.{Survey}
use Rattle.shared_survey.specs.Benches.{bench_about, bench_seen}
use Rattle.shared_survey.specs.Passes.{survey_listed}
use Rattle.survey_hall.specs.EliminatorBenches.{IsBenchOf}
use Rattle.survey_hall.specs.EliminatorSeats.{HoldsPass, IsOfModel}
use Rattle.survey_hall.proofs.StackLemmas.{each_of, stacked_all, stacked_along, stacked_length, zip_length}
use Rattle.survey_hall.proofs.eliminator_seats.work_at.Goals as goal

pub worker-requires-clause-many : goal.worker-requires-clause-many
worker-requires-clause-many g c =
    let b : vec_len c.args.surveys.now ≡ length c.args.surveys.now.items = search rules in
    omega (arith, b, c.requires.jobs, stacked_length IsBenchOf c.args.surveys.now.items c.hold_all-benches.result.list.items c.hold_all-benches.ensures.benches)

pub worker-requires-clause-models : goal.worker-requires-clause-models
worker-requires-clause-models g c =
    stacked_all IsBenchOf (IsOfModel c.args.model.now) (λ (bench : SurveyBench g.row.R.Denot). (survey_listed (bench_about bench).survey).criteria ≡ c.args.model.now)
    (λ survey bench of one. ap (λ (s : Survey). (survey_listed s).criteria) one ∙ of)
    c.args.surveys.now.items c.hold_all-benches.result.list.items c.requires.models c.hold_all-benches.ensures.benches

pub give_back-requires-clause-benches : goal.give_back-requires-clause-benches
give_back-requires-clause-benches g c κs within =
    stacked_along IsBenchOf (Stays bench_about (λ (about : BenchAbout). survey_listed about.survey) (λ (about : BenchAbout). about.worker) bench_seen)
    (λ survey old new one stays. ap (λ (about : BenchAbout). about.survey) stays.0 ∙ one)
    c.args.surveys.now.items c.hold_all-benches.result.list.items c.worker.new.benches.list.items c.hold_all-benches.ensures.benches c.worker.ensures.each

pub give_back-requires-clause-room : goal.give_back-requires-clause-room
give_back-requires-clause-room g c κs within =
    let long = zip_length HoldsPass c.args.surveys.now.items c.args.passes.now.items c.requires.passes in
    let a : vec_len c.args.passes.now ≡ length c.args.passes.now.items = search rules in
    let b : vec_len c.args.surveys.now ≡ length c.args.surveys.now.items = search rules in
    let room : vec_len c.args.passes.now ≤ vec_capacity c.args.passes.now = search rules in
    (c.hold_all-benches.ensures.none.0, omega (arith, long, a, b, room, c.hold_all-benches.ensures.none.1))

pub returns-clause-each : goal.returns-clause-each
returns-clause-each g c = each_of HoldsPass c.args.surveys.now.items c.give_back.new.passes.items c.give_back.ensures

pub returns-clause-as_many : goal.returns-clause-as_many
returns-clause-as_many g c =
    let long = zip_length HoldsPass c.args.surveys.now.items c.give_back.new.passes.items c.give_back.ensures in
    let a : vec_len c.give_back.new.passes ≡ length c.give_back.new.passes.items = search rules in
    let b : vec_len c.args.surveys.now ≡ length c.args.surveys.now.items = search rules in
    omega (arith, long, a, b)
