-- What a pool keeps, after each change.
use Rattle.std.proofs.Common.{◌≡◌, ◌≢◌, ⊎_elim, ℕ, zero, suc, ◌+◌, ◌-◌, ◌^◌, ◌<◌, ◌≤◌, min, ◌==◌, Bool, true, false, not, ◌||◌, cond, Option, Some, None, List, [], ◌∷◌, length, get_or, replicate, set, slice_get}
use Rattle.std.proofs.Common.{subst, sym, refl, ap, ◌∙◌, length-set, eq-eqb, lt-ltb, le-ltb, arith}
use Rattle.std.specs.Prelude.{if◌then◌else◌}
use Rattle.std.specs.Option.{option_map_or}
use Rattle.std.proofs.lemmas.List.{length-replicate}
use Rattle.std.specs.List.{position_or_len}
use Rattle.question_queue.specs.declared.marks.Mark.{Mark}
use Rattle.question_queue.specs.declared.marks.Kept.{Kept}
use Rattle.question_queue.specs.Pools.{Pooled, ChangesMark, new_mark, is_unranked, is_due, is_job, is_given, KeepsPlaces}
use Rattle.question_queue.specs.Pools.{as_ranked, as_unranked, as_asked, as_given, with_mark, given_out}
use Rattle.question_queue.proofs.Places.{either, set_fails, set_same, set_passes, set_past, first_le, item_at, first_within}

asked_fails : (b : Bool) → not (b || true) ≡ false
asked_fails true = refl
asked_fails false = refl

-- a place with a mark is one of the list
pub inside : (marks : List Mark) (i : ℕ) (m : Mark) → slice_get marks i ≡ Some m → i < length marks
inside [] i m e = absurd cc
inside (x ∷ marks) zero m e = omega arith
inside (x ∷ marks) (suc i) m e = let l = inside marks i m e in omega arith

none_first : (count : ℕ) → (0 ≡ position_or_len is_unranked (replicate count new_mark)) × (0 ≡ position_or_len is_due (replicate count new_mark))
none_first zero = (refl, refl)
none_first (suc count) = (refl, refl)

pub new_keeps : (count : ℕ) (marks : List Mark) (kept : List (Option Kept)) → marks ≡ replicate count new_mark → kept ≡ replicate count None
    → count < 2 ^ 32 → KeepsPlaces marks kept 0 0 0 0
new_keeps count marks kept m k few = record {
  same = ap length k ∙ length-replicate count None ∙ sym (ap length m ∙ length-replicate count new_mark);
  few = subst (λ n. n < 2 ^ 32) (sym (ap length m ∙ length-replicate count new_mark)) few;
  first_unranked = (none_first count).0 ∙ sym (ap (position_or_len is_unranked) m);
  first_due = (none_first count).1 ∙ sym (ap (position_or_len is_due) m);
  no_job = omega arith;
}

length-kept : {X Y : Type 0} (xs : List X) (ys : List Y) (i : ℕ) (x : X) → length ys ≡ length xs → length ys ≡ length (set xs i x)
length-kept xs ys i x e = e ∙ sym (length-set xs i x)

-- the class of the mark m at place i is ranked
pub ranked_keeps : (marks : List Mark) (kept : List (Option Kept)) (u d v j i : ℕ) (m : Mark) → KeepsPlaces marks kept u d v j
    → (u ≤ position_or_len is_unranked (set marks i (as_ranked m))) × (d ≤ position_or_len is_due (set marks i (as_ranked m)))
    × ((u' d' : ℕ) → u' ≡ position_or_len is_unranked (set marks i (as_ranked m)) → d' ≡ position_or_len is_due (set marks i (as_ranked m)) → KeepsPlaces (set marks i (as_ranked m)) kept u' d' v j)
ranked_keeps marks kept u d v j i m is =
    let first = set_fails is_unranked marks i (as_ranked m) refl in
    let due = set_fails is_due marks i (as_ranked m) refl in
    let job = set_fails (is_job v) marks i (as_ranked m) refl in (
      omega (arith, is.first_unranked),
      omega (arith, is.first_due),
      λ u' d' e f. record {
        same = length-kept marks kept i (as_ranked m) is.same;
        few = subst (λ n. n < 2 ^ 32) (sym (length-set marks i (as_ranked m))) is.few;
        first_unranked = e;
        first_due = f;
        no_job = omega (arith, is.no_job);
      },
    )

-- it is asked
pub asked_keeps : (marks : List Mark) (kept : List (Option Kept)) (u d v j i : ℕ) (m : Mark) → KeepsPlaces marks kept u d v j → slice_get marks i ≡ Some m
    → (d ≤ position_or_len is_due (set marks i (as_asked m))) × (position_or_len is_unranked (set marks i (as_asked m)) ≡ position_or_len is_unranked marks)
    × ((d' : ℕ) → d' ≡ position_or_len is_due (set marks i (as_asked m)) → KeepsPlaces (set marks i (as_asked m)) kept u d' v j)
asked_keeps marks kept u d v j i m is at =
    let first = set_same is_unranked marks i m (as_asked m) at refl in
    let due = set_fails is_due marks i (as_asked m) (asked_fails m.ranked) in
    let job = set_same (is_job v) marks i m (as_asked m) at refl in (
      omega (arith, is.first_due),
      first,
      λ d' e. record {
        same = length-kept marks kept i (as_asked m) is.same;
        few = subst (λ n. n < 2 ^ 32) (sym (length-set marks i (as_asked m))) is.few;
        first_unranked = is.first_unranked ∙ sym first;
        first_due = e;
        no_job = omega (arith, is.no_job);
      },
    )

-- it is taken back that it is ranked
pub unranked_keeps : (marks : List Mark) (kept : List (Option Kept)) (u d v j i : ℕ) (m : Mark) → KeepsPlaces marks kept u d v j → slice_get marks i ≡ Some m
    → KeepsPlaces (set marks i (as_unranked m)) kept (min u i) (if not m.asked then min d i else d) v (min j i)
unranked_keeps marks kept u d v j i m is at = record {
  same = length-kept marks kept i (as_unranked m) is.same;
  few = subst (λ n. n < 2 ^ 32) (sym (length-set marks i (as_unranked m))) is.few;
  first_unranked = ap (λ n. min n i) is.first_unranked ∙ sym (set_passes is_unranked marks i (as_unranked m) (inside marks i m at) refl);
  first_due = due m.asked refl;
  no_job = ⊎_elim
      (λ (e : is_job v (as_unranked m) ≡ true). let new = set_passes (is_job v) marks i (as_unranked m) (inside marks i m at) e in let low = is.no_job in grind arith)
      (λ (e : is_job v (as_unranked m) ≡ false). let new = set_fails (is_job v) marks i (as_unranked m) e in let low = is.no_job in grind arith)
      (either (is_job v (as_unranked m)));
}
  where
    due : (b : Bool) → m.asked ≡ b → (if not b then min d i else d) ≡ position_or_len is_due (set marks i (as_unranked m))
    due true e = is.first_due ∙ sym (set_same is_due marks i m (as_unranked m) at (ap (λ b. not (false || b)) e ∙ sym (asked_fails m.ranked) ∙ ap (λ b. not (m.ranked || b)) (sym e)))
    due false e = ap (λ n. min n i) is.first_due ∙ sym (set_passes is_due marks i (as_unranked m) (inside marks i m at) (ap (λ b. not (false || b)) e))

-- the first job at a version is given out
pub given_keeps : (marks : List Mark) (kept : List (Option Kept)) (u d v j version i : ℕ) (m : Mark) → KeepsPlaces marks kept u d v j
    → slice_get marks i ≡ Some m → i ≡ position_or_len (is_job version) marks
    → KeepsPlaces (set marks i (as_given version m)) kept u d version (i + 1)
given_keeps marks kept u d v j version i m is at first = record {
  same = length-kept marks kept i (as_given version m) is.same;
  few = subst (λ n. n < 2 ^ 32) (sym (length-set marks i (as_given version m))) is.few;
  first_unranked = is.first_unranked ∙ sym (set_same is_unranked marks i m (as_given version m) at refl);
  first_due = is.first_due ∙ sym (set_same is_due marks i m (as_given version m) at refl);
  no_job = set_past (is_job version) marks i (as_given version m) (inside marks i m at) (omega arith) (given_fails m.ranked (version == version) (eq-eqb version version refl));
}
  where
    given_fails : (a b : Bool) → b ≡ true → not (a || b) ≡ false
    given_fails true b e = refl
    given_fails false b e = ap not e

pub no_job_keeps : (marks : List Mark) (kept : List (Option Kept)) (u d v j version i : ℕ) → KeepsPlaces marks kept u d v j
    → i ≡ position_or_len (is_job version) marks → KeepsPlaces marks kept u d version i
no_job_keeps marks kept u d v j version i is first = record { same = is.same; few = is.few; first_unranked = is.first_unranked; first_due = is.first_due; no_job = omega arith }

-- a job isn't ranked, so none stands before the first class that isn't
pub before_jobs : (marks : List Mark) (version : ℕ) → position_or_len is_unranked marks ≤ position_or_len (is_job version) marks
before_jobs marks version = first_le is_unranked (is_job version) marks (λ m e. job_is m.ranked (is_given version m.given) e)
  where
    job_is : (a b : Bool) → not (a || b) ≡ true → not a ≡ true
    job_is true b e = absurd cc
    job_is false b e = refl

-- a mark that is written over is one that is changed
pub with_mark_is : (change : Mark → Mark) (marks : List Mark) (i : ℕ) (m : Mark) → slice_get marks i ≡ Some m → set marks i (change m) ≡ with_mark change marks i
with_mark_is change marks i m at = ap (λ o. option_map_or (λ mark. set marks i (change mark)) o marks) (sym at)

pub given_out_is : (version : ℕ) (marks : List Mark) (i : ℕ) (m : Mark) → i ≡ position_or_len (is_job version) marks → slice_get marks i ≡ Some m
    → set marks i (as_given version m) ≡ given_out version marks
given_out_is version marks i m first at =
    with_mark_is (as_given version) marks i m at
    ∙ ap (λ k. with_mark (as_given version) marks k) first
    ∙ ap (λ b. option_map_or (λ k. with_mark (as_given version) marks k) (cond b (Some (position_or_len (is_job version) marks)) None) marks) (sym (lt-ltb _ _ (let l = inside marks i m at in omega arith)))

pub none_given_out : (version : ℕ) (marks : List Mark) → position_or_len (is_job version) marks ≡ length marks → marks ≡ given_out version marks
none_given_out version marks all =
    ap (λ b. option_map_or (λ k. with_mark (as_given version) marks k) (cond b (Some (position_or_len (is_job version) marks)) None) marks) (sym (le-ltb _ _ (omega arith)))

-- the numbers after it, as they were computed
pub unranked_to : (marks : List Mark) (kept : List (Option Kept)) (u d v j i : ℕ) (m : Mark) (u' d' j' : ℕ) → KeepsPlaces marks kept u d v j → slice_get marks i ≡ Some m
    → u' ≡ min u i → d' ≡ (if not m.asked then min d i else d) → j' ≡ min j i → KeepsPlaces (set marks i (as_unranked m)) kept u' d' v j'
unranked_to marks kept u d v j i m u' d' j' is at e f h = let k = unranked_keeps marks kept u d v j i m is at in record {
  same = k.same;
  few = k.few;
  first_unranked = e ∙ k.first_unranked;
  first_due = f ∙ k.first_due;
  no_job = omega (arith, k.no_job, h);
}

-- the mark of a class of the pool
pub at_place : (old : Pooled) (marks : List Mark) (kept : List (Option Kept)) (place : ℕ) (m : Mark) → record { marks = marks; kept = kept } ≡ old
    → 1 ≤ place → place ≤ length old.marks
    → m ≡ get_or marks (place - 1) m → slice_get marks (place - 1) ≡ Some m
at_place old marks kept place m view low high is =
    let size : length marks ≡ length old.marks = ap (λ (v : Pooled). length v.marks) view in
    item_at marks (place - 1) m (omega arith) ∙ ap Some (sym is)

-- a mark that is written over changes the pool at its place
pub changes : (change : Mark → Mark) (old : Pooled) (marks : List Mark) (kept : List (Option Kept)) (place : ℕ) (m : Mark)
    → record { marks = marks; kept = kept } ≡ old → slice_get marks (place - 1) ≡ Some m
    → ChangesMark change old (record { marks = set marks (place - 1) (change m); kept = kept }) place
changes change old marks kept place m view at = record {
  marks = with_mark_is change marks (place - 1) m at ∙ ap (λ (v : Pooled). with_mark change v.marks (place - 1)) view;
  kept = ap (λ (v : Pooled). v.kept) view;
  len = length-set marks (place - 1) (change m) ∙ ap (λ (v : Pooled). length v.marks) view;
}

-- a job's place is one of the list, where it isn't past the end
pub job_within : (pool : Pooled) (marks : List Mark) (kept : List (Option Kept)) (version i len : ℕ) → record { marks = marks; kept = kept } ≡ pool
    → i ≡ position_or_len (is_job version) pool.marks
    → len ≡ length marks → i ≢ len → (i ≡ position_or_len (is_job version) marks) × (i < length marks)
job_within pool marks kept version i len view first size other =
    let here = first ∙ ap (λ (v : Pooled). position_or_len (is_job version) v.marks) (sym view) in
    let most = first_within (is_job version) marks in (here, omega arith)
