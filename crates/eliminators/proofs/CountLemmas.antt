-- Counts and tallies of work, one answer more at a time.
use Rattle.std.proofs.Common.{◌≡◌, ℕ, ◌+◌, Bool, List, [], ◌∷◌, ◌++◌, length, length-append, refl, ap, sym, ◌∙◌, arith}
use Rattle.std.specs.List.{count_by}
use Rattle.survey_replies.proofs.InterviewLemmas.{count_by-append}
use Rattle.eliminators.specs.declared.job.HandIn.{HandIn}
use Rattle.eliminators.specs.declared.job.HandIn.TheVariants.{Recorded, Kept, Stale}
use Rattle.eliminators.specs.declared.work.Tally.{Tally}
use Rattle.eliminators.specs.Jobs.{JobCounts, raised, with_taken, with_handed_in}
use Rattle.eliminators.specs.Work.{is_recorded, is_kept, is_stale, IsTallyOf, counted, with_jobs, with_all_jobs, AddsUp}

raised_none : (count : ℕ) → raised count 0 ≡ count
raised_none count = omega arith

raised_more : (count more one all : ℕ) → all ≡ more + one → raised (raised count more) one ≡ raised count all
raised_more count more one all is = omega arith

pub no_jobs : (counts : JobCounts) → counts ≡ with_jobs counts 0
no_jobs counts =
    let one : raised counts.taken 0 ≡ counts.taken = raised_none counts.taken in
    let other : raised counts.handed_in 0 ≡ counts.handed_in = raised_none counts.handed_in in rw (one, other) refl

jobs_on : (counts : JobCounts) (jobs all : ℕ) → all ≡ jobs + 1 → with_handed_in (with_taken (with_jobs counts jobs)) ≡ with_jobs counts all
jobs_on counts jobs all is =
    let one : raised (raised counts.taken jobs) 1 ≡ raised counts.taken all = raised_more counts.taken jobs 1 all is in
    let other : raised (raised counts.handed_in jobs) 1 ≡ raised counts.handed_in all = raised_more counts.handed_in jobs 1 all is in rw (one, other) refl

pub one_job_more : (was middle now : JobCounts) (answers : List HandIn) (answer : HandIn) → middle ≡ with_jobs was (length answers)
    → now ≡ with_handed_in (with_taken middle) → now ≡ with_jobs was (length (answers ++ answer ∷ []))
one_job_more was middle now answers answer before is =
    is ∙ ap (λ (c : JobCounts). with_handed_in (with_taken c)) before
    ∙ jobs_on was (length answers) (length (answers ++ answer ∷ [])) (length-append answers (answer ∷ []))

count_more : (test : HandIn → Bool) (answers : List HandIn) (answer : HandIn) (more count : ℕ) → count_by test (answer ∷ []) ≡ more
    → count ≡ raised 0 (count_by test answers) → raised count more ≡ raised 0 (count_by test (answers ++ answer ∷ []))
count_more test answers answer more count one is =
    let all : count_by test (answers ++ answer ∷ []) ≡ count_by test answers + more =
    count_by-append test answers (answer ∷ []) ∙ ap (λ (n : ℕ). count_by test answers + n) one in
    ap (λ (n : ℕ). raised n more) is ∙ raised_more 0 (count_by test answers) more (count_by test (answers ++ answer ∷ [])) all

count_same : (test : HandIn → Bool) (answers : List HandIn) (answer : HandIn) (count : ℕ) → count_by test (answer ∷ []) ≡ 0
    → count ≡ raised 0 (count_by test answers) → count ≡ raised 0 (count_by test (answers ++ answer ∷ []))
count_same test answers answer count none is = sym (raised_none count) ∙ count_more test answers answer 0 count none is

tally_counted : (tally : Tally) (answers : List HandIn) (answer : HandIn) → IsTallyOf answers tally → IsTallyOf (answers ++ answer ∷ []) (counted tally answer)
tally_counted tally answers Recorded is = record {
  recorded = count_more is_recorded answers Recorded 1 tally.recorded refl is.recorded;
  kept = count_same is_kept answers Recorded tally.kept refl is.kept;
  stale = count_same is_stale answers Recorded tally.stale refl is.stale;
}
tally_counted tally answers Kept is = record {
  recorded = count_same is_recorded answers Kept tally.recorded refl is.recorded;
  kept = count_more is_kept answers Kept 1 tally.kept refl is.kept;
  stale = count_same is_stale answers Kept tally.stale refl is.stale;
}
tally_counted tally answers (Stale broken) is = record {
  recorded = count_same is_recorded answers (Stale broken) tally.recorded refl is.recorded;
  kept = count_same is_kept answers (Stale broken) tally.kept refl is.kept;
  stale = count_more is_stale answers (Stale broken) 1 tally.stale refl is.stale;
}

pub one_answer_more : (tally now : Tally) (answers : List HandIn) (answer : HandIn) → IsTallyOf answers tally → now ≡ counted tally answer
    → IsTallyOf (answers ++ answer ∷ []) now
one_answer_more tally now answers answer is counts = rw counts (tally_counted tally answers answer is)

count_cons : (test : HandIn → Bool) (answer : HandIn) (answers : List HandIn) (more : ℕ) → count_by test (answer ∷ []) ≡ more
    → count_by test (answer ∷ answers) ≡ more + count_by test answers
count_cons test answer answers more one = count_by-append test (answer ∷ []) answers ∙ ap (λ (n : ℕ). n + count_by test answers) one

each_counts : (answers : List HandIn) → count_by is_recorded answers + count_by is_kept answers + count_by is_stale answers ≡ length answers
each_counts [] = refl
each_counts (Recorded ∷ answers) =
    omega (arith, each_counts answers, count_cons is_recorded Recorded answers 1 refl, count_cons is_kept Recorded answers 0 refl, count_cons is_stale Recorded answers 0 refl)
each_counts (Kept ∷ answers) =
    omega (arith, each_counts answers, count_cons is_recorded Kept answers 0 refl, count_cons is_kept Kept answers 1 refl, count_cons is_stale Kept answers 0 refl)
each_counts (Stale broken ∷ answers) =
    omega (arith, each_counts answers, count_cons is_recorded (Stale broken) answers 0 refl, count_cons is_kept (Stale broken) answers 0 refl, count_cons is_stale (Stale broken) answers 1 refl)

pub adds_up_of : (was now : JobCounts) (tally : Tally) (answers : List HandIn) → now ≡ with_all_jobs was (length answers) → IsTallyOf answers tally
    → AddsUp was now tally
adds_up_of was now tally answers counts is taken_low handed_in_low =
    let taken : now.taken ≡ raised was.taken (length answers) = ap (λ (c : JobCounts). c.taken) counts in
    let handed_in : now.handed_in ≡ raised was.handed_in (length answers) = ap (λ (c : JobCounts). c.handed_in) counts in
    let all : count_by is_recorded answers + count_by is_kept answers + count_by is_stale answers ≡ length answers = each_counts answers in
    let one : tally.recorded ≡ raised 0 (count_by is_recorded answers) = is.recorded in
    let two : tally.kept ≡ raised 0 (count_by is_kept answers) = is.kept in
    let three : tally.stale ≡ raised 0 (count_by is_stale answers) = is.stale in (omega arith, omega arith)
