use Rattle.std.proofs.Common.{◌≡◌, length, rules, arith}
use Rattle.std.specs.Prelude.{vec_len}
use Rattle.std.proofs.lemmas.List.Elements.{length_all_zip}
use Rattle.eliminators.specs.Work.{Stays}
use Rattle.shared_survey.specs.declared.bench.BenchAbout.{BenchAbout}
use Rattle.shared_survey.specs.Benches.{bench_about, bench_seen}
use Rattle.shared_survey.specs.Passes.{survey_listed}
use Rattle.survey_run.specs.Workers.{HoldsFresh, IsFreshPass}
use Rattle.survey_run.proofs.EachLemmas.{all_zip_length}
use Rattle.survey_run.proofs.WorkerLemmas.{benches_models, benches_worked}
use Rattle.survey_run.proofs.worker_threads.work.Goals as goal

pub turned-requires : goal.turned-requires
turned-requires g c =
    let long = all_zip_length IsFreshPass c.args.surveys.now.items c.args.job.passes.items c.requires.job.passes in
    let a : vec_len c.args.job.passes ≡ length c.args.job.passes.items = search rules in
    let b : vec_len c.args.surveys.now ≡ length c.args.surveys.now.items = search rules in
    record { room = (c.requires.job.back.0, omega (arith, long, a, b, c.requires.job.back.1)) }

pub worker-requires-clause-many : goal.worker-requires-clause-many
worker-requires-clause-many g c =
    let long = all_zip_length (HoldsFresh c.args.job.number) c.args.surveys.now.items c.hold_all-benches.result.list.items c.hold_all-benches.ensures in
    let b : vec_len c.args.surveys.now ≡ length c.args.surveys.now.items = search rules in
    omega (arith, long, b, c.requires.job.jobs)

pub worker-requires-clause-models : goal.worker-requires-clause-models
worker-requires-clause-models g c =
    benches_models c.args.job.number c.args.model.now c.args.surveys.now.items c.hold_all-benches.result.list.items c.requires.models c.hold_all-benches.ensures

pub give_back-requires-clause-room : goal.give_back-requires-clause-room
give_back-requires-clause-room g c =
    let long = all_zip_length (HoldsFresh c.args.job.number) c.args.surveys.now.items c.hold_all-benches.result.list.items c.hold_all-benches.ensures in
    let same = length_all_zip (Stays bench_about (λ (about : BenchAbout). survey_listed about.survey) (λ (about : BenchAbout). about.worker) bench_seen)
    c.hold_all-benches.result.list.items c.worker.new.benches.list.items c.worker.ensures.each in
    let b : vec_len c.args.surveys.now ≡ length c.args.surveys.now.items = search rules in
    let short = all_zip_length IsFreshPass c.args.surveys.now.items c.args.job.passes.items c.requires.job.passes in
    let a : vec_len c.args.job.passes ≡ length c.args.job.passes.items = search rules in
    λ lives within. (c.requires.job.back.0, omega (arith, long, same, short, a, b, c.requires.job.back.1))

pub returns : goal.returns
returns g c =
    c.give_back.ensures c.args.job.number c.args.surveys.now.items
    (benches_worked c.args.job.number c.args.surveys.now.items c.hold_all-benches.result.list.items c.worker.new.benches.list.items c.hold_all-benches.ensures c.worker.ensures.each)
