-- Work that is joined, and what it appends.
use Rattle.std.proofs.Common.{◌≡◌, ℕ, ◌-◌, List, [], ◌∷◌, ◌++◌, length, refl, ap, sym, subst, ◌∙◌, arith, append_assoc, append-nil, length-append}
use Rattle.std.specs.List.{range_with_len, AllZip}
use mathlib.Core.List.{IsPrefix}
use Rattle.criteria_model.specs.declared.pairs.Answer.{Answer}
use Rattle.criteria_model.specs.declared.pairs.Side.{Side}
use Rattle.criteria_model.specs.Criteria.{Criteria}
use Rattle.decider.specs.declared.decision.Decision.{Decision}
use Rattle.decider.specs.declared.decision.Decision.TheVariants.{Undecided, Implied}
use Rattle.decider.specs.declared.tools.Snapshot.{Snapshot}
use Rattle.decider.specs.Decisions.{IsDecision}
use Rattle.farkas_check.specs.declared.combination.Combination.{Combination}
use Rattle.pair_enumeration.specs.Listed.{Listed}
use Rattle.survey_core.specs.declared.events.Event.{Event}
use Rattle.survey_core.specs.declared.events.Event.TheVariants.{Eliminate}
use Rattle.survey_core.proofs.ListSteps.{Each, Each-append, Each-map, Each-All, some_at, slice_get-last}
use Rattle.survey_replies.specs.Calls.{Seen, IsEliminateOf, HasEliminateOf, Watches}
use Rattle.survey_replies.proofs.CallLemmas.{prefix_trans, has_longer}
use Rattle.eliminators.specs.declared.job.Job.{Job}
use Rattle.eliminators.specs.declared.job.HandIn.{HandIn}
use Rattle.eliminators.specs.declared.job.HandIn.TheVariants.{Recorded, Kept, Stale}
use Rattle.eliminators.specs.Jobs.{IsJob, IsReadySnapshot}
use Rattle.eliminators.specs.HandIns.{IsHandedIn, HandsIn}
use Rattle.eliminators.specs.Work.{DoesJob, Works, Stays}
use Rattle.eliminators.specs.Laws.{WorkEliminates}

-- ---- joined
nothing_new : (seen : Seen) → Watches seen seen
nothing_new seen = record { longer = ([], append-nil seen.journal); own = refl }

watches_on : (before middle after : Seen) → Watches before middle → Watches middle after → Watches before after
watches_on before middle after one other = record {
  longer = prefix_trans before.journal middle.journal after.journal one.longer other.longer;
  own = other.own ∙ one.own;
}

job_later : (listed : Listed) (worker : ℕ) (before middle after : Seen) (answer : HandIn) → Watches before middle → DoesJob listed worker middle after answer
    → DoesJob listed worker before after answer
job_later listed worker before middle after answer watches does = record {
  read = does.read;
  longer = prefix_trans before.journal middle.journal does.read watches.longer does.longer;
  job = does.job;
  taken = does.taken;
  decision = does.decision;
  decided = does.decided;
  handed_in =
      subst (λ (own : List ℕ). HandsIn listed worker does.job does.decision (record { journal = does.read; own = own }) after answer) watches.own does.handed_in;
}

work_later : (listed : Listed) (worker : ℕ) (before middle after : Seen) (answers : List HandIn) → Watches before middle → Works listed worker middle after answers
    → Works listed worker before after answers
work_later listed worker before middle after [] watches works = watches_on before middle after watches works
work_later listed worker before middle after (answer ∷ answers) watches (next, does, rest) =
    (next, job_later listed worker before middle next answer watches does, rest)

pub no_work : (listed : Listed) (worker : ℕ) (seen : Seen) → Works listed worker seen seen []
no_work listed worker seen = nothing_new seen

pub work_on : (listed : Listed) (worker : ℕ) (before middle after : Seen) (answers more : List HandIn) → Works listed worker before middle answers
    → Works listed worker middle after more → Works listed worker before after (answers ++ more)
work_on listed worker before middle after [] more works other = work_later listed worker before middle after more works other
work_on listed worker before middle after (answer ∷ answers) more (next, does, rest) other =
    (next, does, work_on listed worker next middle after answers more rest other)

pub work_more : (listed : Listed) (worker : ℕ) (before middle after : Seen) (answers : List HandIn) (answer : HandIn) → Works listed worker before middle answers
    → DoesJob listed worker middle after answer → Works listed worker before after (answers ++ answer ∷ [])
work_more listed worker before middle after answers answer works does =
    work_on listed worker before middle after answers (answer ∷ []) works (after, does, nothing_new after)

pub work_watched : (listed : Listed) (worker : ℕ) (before middle after : Seen) (answers : List HandIn) → Works listed worker before middle answers
    → Watches middle after → Works listed worker before after answers
work_watched listed worker before middle after answers works watches =
    subst (λ (l : List HandIn). Works listed worker before after l) (append-nil answers)
    (work_on listed worker before middle after answers [] works watches)

-- ---- one job
pub job_same : (listed now : Listed) (worker worker_now : ℕ) (before after : Seen) (answer : HandIn) → now ≡ listed → worker_now ≡ worker
    → DoesJob now worker_now before after answer → DoesJob listed worker before after answer
job_same listed now worker worker_now before after answer same same_worker does =
    subst (λ (w : ℕ). DoesJob listed w before after answer) same_worker
    (subst (λ (l : Listed). DoesJob l worker_now before after answer) same does)

pub job_done : (listed now : Listed) (worker worker_now : ℕ) (model : Criteria) (before middle after : Seen) (snapshot : Snapshot) (job : Job)
    (decision : Decision) (answer : HandIn) → now ≡ listed → worker_now ≡ worker → model ≡ listed.criteria → Watches before middle
    → IsReadySnapshot listed middle.journal snapshot → IsJob listed middle.journal job
    → IsDecision model.levels snapshot.answers.answers job.pair decision → HandsIn now worker_now job decision middle after answer
    → DoesJob listed worker before after answer
job_done listed now worker worker_now model before middle after snapshot job decision answer same same_worker same_model watches ready taken decided hands =
    let moved : HandsIn listed worker job decision middle after answer =
    subst (λ (w : ℕ). HandsIn listed w job decision middle after answer) same_worker
    (subst (λ (l : Listed). HandsIn l worker_now job decision middle after answer) same hands) in
    record {
      read = middle.journal;
      longer = watches.longer;
      job = job;
      taken = taken;
      decision = decision;
      decided =
          subst (λ (answers : List Answer). IsDecision listed.criteria.levels answers job.pair decision) ready.copy.has.answers
          (subst (λ (criteria : Criteria). IsDecision criteria.levels snapshot.answers.answers job.pair decision) same_model decided);
      handed_in =
          subst (λ (own : List ℕ). HandsIn listed worker job decision (record { journal = middle.journal; own = own }) after answer) watches.own moved;
    }

-- ---- at a bench
module _ {B A : Type 0} (about : B → A) (listed : A → Listed) (worker : A → ℕ) (seen : B → Seen) where
  pub stays_same : (bench : B) → Stays about listed worker seen bench bench
  stays_same bench = (refl, ([], nothing_new (seen bench)))

  pub stays_on : (old middle new : B) → Stays about listed worker seen old middle → Stays about listed worker seen middle new → Stays about listed worker seen old new
  stays_on old middle new (same, (answers, works)) (other_same, (more, other)) = (
    other_same ∙ same,
    (
      answers ++ more,
      work_on (listed (about old)) (worker (about old)) (seen old) (seen middle) (seen new) answers more works
          (subst (λ (a : A). Works (listed a) (worker a) (seen middle) (seen new) more) same other),
    ),
  )

  pub each_stays : (P : A → Type 0) (old new : List B) → AllZip (Stays about listed worker seen) old new → Each (λ bench. P (about bench)) old
      → Each (λ bench. P (about bench)) new
  each_stays P [] [] zip each = tt
  each_stays P [] (y ∷ ys) zip each = absurd zip
  each_stays P (x ∷ xs) [] zip each = absurd zip
  each_stays P (x ∷ xs) (y ∷ ys) zip each = (subst P (sym zip.0.0) each.0, each_stays P xs ys zip.1 each.1)

-- ---- what work appends
work_longer : (listed : Listed) (worker : ℕ) (before after : Seen) (answers : List HandIn) → Works listed worker before after answers
    → IsPrefix before.journal after.journal
work_longer listed worker before after [] works = works.longer
work_longer listed worker before after (answer ∷ answers) (middle, does, rest) =
    prefix_trans before.journal middle.journal after.journal
    (prefix_trans before.journal does.read middle.journal does.longer
    (prefix_trans does.read does.handed_in.found middle.journal does.handed_in.turn.later does.handed_in.turn.longer))
    (work_longer listed worker middle after answers rest)

one_place : (found after : List Event) (event : Event) → after ≡ found ++ event ∷ [] → length after - length found ≡ 1
one_place found after event is = omega (arith, ap (λ (l : List Event). length l) is, length-append found (event ∷ []))

no_place : (found after : List Event) → after ≡ found → length after - length found ≡ 0
no_place found after is = omega (arith, ap (λ (l : List Event). length l) is)

none_appended : (worker : ℕ) (found after : List Event) → after ≡ found
    → Each (HasEliminateOf worker after) (range_with_len (length found) (length after - length found))
none_appended worker found after is =
    subst (λ (n : ℕ). Each (HasEliminateOf worker after) (range_with_len (length found) n)) (sym (no_place found after is)) tt

one_appended : (worker place : ℕ) (verdict : Side) (combination : Combination) (found after : List Event)
    → after ≡ found ++ Eliminate worker place verdict combination ∷ []
    → Each (HasEliminateOf worker after) (range_with_len (length found) (length after - length found))
one_appended worker place verdict combination found after is =
    let event : Event = Eliminate worker place verdict combination in
    let there : HasEliminateOf worker after (length found) =
    subst (λ (l : List Event). HasEliminateOf worker l (length found)) (sym is)
    (some_at _ (IsEliminateOf worker) event (slice_get-last found event) refl) in
    subst (λ (n : ℕ). Each (HasEliminateOf worker after) (range_with_len (length found) n)) (sym (one_place found after event is)) (there, tt)

appended : (listed : Listed) (worker : ℕ) (job : Job) (decision : Decision) (found after : List Event) (answer : HandIn)
    → IsHandedIn listed worker job decision found after answer
    → Each (HasEliminateOf worker after) (range_with_len (length found) (length after - length found))
appended listed worker job (Implied verdict combination) found after Recorded is = one_appended worker job.place verdict combination found after is.1
appended listed worker job (Implied verdict combination) found after Kept is = absurd is
appended listed worker job (Implied verdict combination) found after (Stale broken) is = none_appended worker found after is.1
appended listed worker job (Undecided plus minus) found after Recorded is = absurd is
appended listed worker job (Undecided plus minus) found after Kept is = none_appended worker found after is.1
appended listed worker job (Undecided plus minus) found after (Stale broken) is = none_appended worker found after is.2

pub same_longer : (found after : List Event) → after ≡ found → IsPrefix found after
same_longer found after is = ([], append-nil found ∙ sym is)

pub handed_in_longer : (listed : Listed) (worker : ℕ) (job : Job) (decision : Decision) (found after : List Event) (answer : HandIn)
    → IsHandedIn listed worker job decision found after answer → IsPrefix found after
handed_in_longer listed worker job (Implied verdict combination) found after Recorded is = (Eliminate worker job.place verdict combination ∷ [], sym is.1)
handed_in_longer listed worker job (Implied verdict combination) found after Kept is = absurd is
handed_in_longer listed worker job (Implied verdict combination) found after (Stale broken) is = same_longer found after is.1
handed_in_longer listed worker job (Undecided plus minus) found after Recorded is = absurd is
handed_in_longer listed worker job (Undecided plus minus) found after Kept is = same_longer found after is.1
handed_in_longer listed worker job (Undecided plus minus) found after (Stale broken) is = same_longer found after is.2

all_appended : (listed : Listed) (worker : ℕ) (before after : Seen) (answers : List HandIn) → Works listed worker before after answers
    → (more : List ℕ) × (after.own ≡ before.own ++ more) × Each (HasEliminateOf worker after.journal) more
all_appended listed worker before after [] works = ([], works.own ∙ sym (append-nil before.own), tt)
all_appended listed worker before after (answer ∷ answers) (middle, does, rest) =
    let later = all_appended listed worker middle after answers rest in
    let found : List Event = does.handed_in.found in
    let places : List ℕ = range_with_len (length found) (length middle.journal - length found) in (
      places ++ later.0,
      later.1 ∙ ap (λ (own : List ℕ). own ++ later.0) does.handed_in.turn.own ∙ append_assoc before.own places later.0,
      Each-append (HasEliminateOf worker after.journal) places later.0
          (Each-map (HasEliminateOf worker middle.journal) (HasEliminateOf worker after.journal)
          (λ place. has_longer middle.journal after.journal worker place (work_longer listed worker middle after answers rest)) places
          (appended listed worker does.job does.decision found middle.journal answer does.handed_in.handed_in))
          later.2,
    )

pub work_eliminates_lem : WorkEliminates
work_eliminates_lem listed worker before after answers works =
    let all = all_appended listed worker before after answers works in
    (all.0, all.1, Each-All (HasEliminateOf worker after.journal) all.0 all.2)
