use Rattle.std.proofs.Common.{[], ◌∷◌, ◌++◌, ap, ◌∙◌}
use Rattle.eliminators.specs.Work.{Stays}
use Rattle.shared_survey.specs.Benches.{bench_about, bench_seen}
use Rattle.shared_survey.specs.Passes.{survey_listed}
use Rattle.shared_survey.proofs.BenchLemmas.{zip_last}
use Rattle.shared_survey.proofs.tests.eliminates.Goals as goal

pub returns : goal.returns
returns g c =
    let pushed = c.push.ensures.pushed ∙ ap (λ l. l ++ c.hold.result ∷ []) c.in-Ok-reserve.ensures.empty in
    let zip = rw pushed at c.worker.ensures.each in
    let stays = zip_last (Stays (λ bench. bench_about bench) (λ about. survey_listed about.survey) (λ about. about.worker) (λ bench. bench_seen bench))
    c.hold.result c.worker.new.benches.list.items c.pop.new.self.list.items c.in-Some.bench zip c.in-Some.ensures.popped in
    let about = stays.0 ∙ c.hold.ensures.about in
    (rw (ap (λ a. a.survey) about) at c.into_pass.ensures.pass, c.into_pass.ensures.weight ∙ ap (λ a. a.weight) about ∙ c.requires.pass.1)
