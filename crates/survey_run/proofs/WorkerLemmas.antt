-- What eliminators make, and where their passes go.
use Rattle.std.proofs.Common.{◌≡◌, ℕ, List, [], ◌∷◌, ◌++◌, All, refl, ap, sym, subst, ◌∙◌}
use Rattle.std.specs.List.{AllZip}
use Rattle.std.proofs.lemmas.List.Elements.{All-nil, All-cons, All-head, All-tail}
use Rattle.criteria_model.specs.Criteria.{Criteria}
use Rattle.eliminators.specs.Work.{Stays}
use Rattle.eliminators.proofs.WorkLemmas.{work_eliminates_lem}
use Rattle.survey_replies.specs.Calls.{Seen, HasEliminateOf}
use Rattle.shared_survey.specs.declared.bench.BenchAbout.{BenchAbout}
use Rattle.shared_survey.specs.declared.bench.SurveyBench.{SurveyBench}
use Rattle.shared_survey.specs.declared.survey.Survey.{Survey}
use Rattle.shared_survey.specs.declared.pass.Pass.{Pass}
use Rattle.shared_survey.specs.Benches.{bench_about, bench_seen}
use Rattle.shared_survey.specs.Passes.{survey_listed}
use Rattle.survey_run.specs.Workers.{HasWorked, HasWorkedAt, HoldsFresh, IsFreshPass}

pub fresh_worked : (worker : ℕ) (survey : Survey) (pass : Pass) → IsFreshPass survey pass → HasWorked worker survey pass
fresh_worked worker survey pass fresh = record {
  of = fresh.of;
  weight = fresh.weight;
  made = subst (λ (s : Seen). All (HasEliminateOf worker s.journal) s.own) (sym fresh.seen) (All-nil (HasEliminateOf worker []));
}

pub about_fresh : (survey : Survey) (worker weight : ℕ) (had : List ℕ) → weight ≡ 1 → had ≡ []
    → ◌≡◌ {A = BenchAbout} (record { survey = survey; worker = worker; weight = weight; had = had }) (record { survey = survey; worker = worker; weight = 1; had = [] })
about_fresh survey worker weight had one none = rw (one, none) refl

module _ {R : Type 0} where
  pub bench_worked : (worker : ℕ) (survey : Survey) (old new : SurveyBench R) → HoldsFresh worker survey old
      → Stays bench_about (λ (about : BenchAbout). survey_listed about.survey) (λ (about : BenchAbout). about.worker) bench_seen old new → HasWorkedAt worker survey new
  bench_worked worker survey old new holds stays =
      let eliminates = work_eliminates_lem (survey_listed (bench_about old).survey) (bench_about old).worker (bench_seen old) (bench_seen new) stays.1.0 stays.1.1 in
      let own : (bench_seen new).own ≡ eliminates.0 = eliminates.1 ∙ ap (λ (s : Seen). s.own ++ eliminates.0) holds.seen in
      let numbered : (bench_about old).worker ≡ worker = ap {B = ℕ} (λ (about : BenchAbout). about.worker) holds.about in
      record {
        about = stays.0 ∙ holds.about;
        made = subst (All (HasEliminateOf worker (bench_seen new).journal)) (sym own)
            (subst (λ (w : ℕ). All (HasEliminateOf w (bench_seen new).journal) eliminates.0) numbered eliminates.2);
      }

  pub benches_worked : (worker : ℕ) (surveys : List Survey) (old new : List (SurveyBench R)) → AllZip (HoldsFresh worker) surveys old
      → AllZip (Stays bench_about (λ (about : BenchAbout). survey_listed about.survey) (λ (about : BenchAbout). about.worker) bench_seen) old new
      → AllZip (HasWorkedAt worker) surveys new
  benches_worked worker [] [] [] holds stay = tt
  benches_worked worker [] [] (n ∷ ns) holds stay = absurd stay
  benches_worked worker [] (o ∷ os) new holds stay = absurd holds
  benches_worked worker (s ∷ ss) [] new holds stay = absurd holds
  benches_worked worker (s ∷ ss) (o ∷ os) [] holds stay = absurd stay
  benches_worked worker (s ∷ ss) (o ∷ os) (n ∷ ns) holds stay = (bench_worked worker s o n holds.0 stay.0, benches_worked worker ss os ns holds.1 stay.1)

  pub benches_models : (worker : ℕ) (criteria : Criteria) (surveys : List Survey) (benches : List (SurveyBench R))
      → All (λ (survey : Survey). (survey_listed survey).criteria ≡ criteria) surveys → AllZip (HoldsFresh worker) surveys benches
      → All (λ (bench : SurveyBench R). (survey_listed (bench_about bench).survey).criteria ≡ criteria) benches
  benches_models worker criteria [] [] models holds = All-nil (λ (bench : SurveyBench R). (survey_listed (bench_about bench).survey).criteria ≡ criteria)
  benches_models worker criteria [] (b ∷ bs) models holds = absurd holds
  benches_models worker criteria (s ∷ ss) [] models holds = absurd holds
  benches_models worker criteria (s ∷ ss) (b ∷ bs) models holds =
      All-cons (λ (bench : SurveyBench R). (survey_listed (bench_about bench).survey).criteria ≡ criteria) b bs
      (ap (λ (about : BenchAbout). (survey_listed about.survey).criteria) holds.0.about ∙ All-head (λ (survey : Survey). (survey_listed survey).criteria ≡ criteria) s ss models)
      (benches_models worker criteria ss bs (All-tail (λ (survey : Survey). (survey_listed survey).criteria ≡ criteria) s ss models) holds.1)
