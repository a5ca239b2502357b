use Rattle.std.proofs.Common.{[], ◌∷◌, ◌++◌, ◌≡◌, ap, ◌∙◌}
use Rattle.shared_survey.specs.Benches.{bench_about, bench_seen}
use Rattle.shared_survey.specs.Passes.{survey_listed}
use Rattle.desks_bench.proofs.BenchLemmas.{stays_last}
use Rattle.desks_bench.proofs.eliminator_work.eliminate.Goals as goal

pub returns : goal.returns
returns g c =
    let pushed = c.push.ensures.pushed ∙ ap (λ l. l ++ c.over.result ∷ []) c.in-Ok.ensures.empty in
    let zip = rw pushed at c.worker.ensures.each in
    let same : bench_about c.in-Some.counting.bench ≡ bench_about c.over.result.bench =
    stays_last (λ counting. bench_about counting.bench) (λ about. survey_listed about.survey) (λ about. about.worker) (λ counting. bench_seen counting.bench)
    c.over.result c.worker.new.benches.list.items c.pop.new.self.list.items c.in-Some.counting zip c.in-Some.ensures.popped in
    let about =
    ap (λ bench. bench_about bench) c.into_bench.ensures ∙ same ∙ ap (λ bench. bench_about bench) c.over.ensures ∙ c.hold-bench.ensures.about in
    record {
      pass = record {
        of = rw (ap (λ a. a.survey) about) at c.into_pass-pass.ensures.pass;
        weight = c.into_pass-pass.ensures.weight ∙ ap (λ a. a.weight) about ∙ c.requires.pass.weight;
      };
    }
