use Rattle.std.proofs.Common.{◌≡◌, length, rules, arith}
use Rattle.std.specs.Prelude.{vec_len}
use Rattle.survey_run.specs.Workers.{IsFreshPass}
use Rattle.survey_run.proofs.EachLemmas.{all_zip_length}
use Rattle.survey_run.proofs.worker_threads.start_worker.Goals as goal

pub turned-requires : goal.turned-requires
turned-requires g c =
    let long = all_zip_length IsFreshPass c.args.surveys.now.items c.args.job.passes.items c.requires.job.passes in
    let a : vec_len c.args.job.passes ≡ length c.args.job.passes.items = search rules in
    let b : vec_len c.args.surveys.now ≡ length c.args.surveys.now.items = search rules in
    record { room = (c.requires.job.back.0, omega (arith, long, a, b, c.requires.job.back.1)) }
