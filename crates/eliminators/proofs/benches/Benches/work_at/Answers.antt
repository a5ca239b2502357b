use Rattle.std.proofs.Common.{◌-◌, refl, rules, length}
use Rattle.std.proofs.lemmas.Option.{slice_get_read}
use Rattle.eliminators.specs.Work.{Stays}
use Rattle.eliminators.proofs.WorkLemmas.{stays_same}
use Rattle.eliminators.proofs.ZipLemmas.{zip_set}
use Rattle.eliminators.proofs.benches.Benches.work_at.Goals as goal

pub returns-clause-each : goal.returns-clause-each
returns-clause-each g c =
    let b = g.B.Bench in
    let items = c.args.self.now.list.items in
    let at = slice_get_read items (length items) (c.args.survey - 1) c.index_mut-bench.result.now refl (search rules) c.index_mut-bench.ensures.value in
    let works = c.work_until_idle.ensures.works in
    zip_set (Stays b.about b.listed b.worker b.seen) (stays_same b.about b.listed b.worker b.seen) items (c.args.survey - 1) c.index_mut-bench.result.now
    c.work_until_idle.new.bench at (c.work_until_idle.ensures.same, (works.answers, works.works))
