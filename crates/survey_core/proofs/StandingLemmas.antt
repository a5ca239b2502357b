-- What stands after one more event.
use Rattle.std.proofs.Common.{◌≡◌, ℕ, zero, suc, ◌+◌, ◌-◌, ◌≤◌, Bool, true, false, cond, not, ◌&&◌, ◌||◌, max, nat_lt, ◌==◌, List, [], ◌∷◌, ◌++◌, length, take, Option, Some, None, refl, ap, sym, ◌∙◌, arith}
use Rattle.std.specs.List.{filter, filter_map, list_any, cons_option}
use Rattle.std.proofs.lemmas.List.Elements.{filter_map-append}
use Rattle.std.proofs.lemmas.Bool.Decides.{nat_tests}
use Rattle.farkas_check.specs.declared.cites.Cite.{Cite}
use Rattle.survey_core.specs.declared.events.Event.{Event}
use Rattle.survey_core.specs.declared.events.Event.TheVariants.{Eliminate, Issue, Commit, Close, Withdraw}
use Rattle.survey_core.specs.Kinds.{issued_place, is_commit, cites}
use Rattle.survey_core.specs.Histories.{standing, standing_after, issued, is_taken, without_taken, without_answer}
use Rattle.survey_core.specs.Marked.{greatest_cited, rests_on, Resting, numbered}
use Rattle.survey_core.proofs.ListSteps.{Each, fold-push}

pub standing-push : (history : List Event) (event : Event) → standing (history ++ event ∷ []) ≡ standing_after (standing history) event
standing-push history event = fold-push standing_after [] history event

pub issued-push : (history : List Event) (event : Event) → issued (history ++ event ∷ []) ≡ issued history ++ cons_option (issued_place event) []
issued-push history event = filter_map-append issued_place history (event ∷ [])

-- 1 for a Commit
abbrev pub step : Event → ℕ
step event = cond (is_commit event) 1 0

-- the number of Commits
abbrev pub commit_count : List Event → ℕ
commit_count [] = 0
commit_count (event ∷ events) = step event + commit_count events

pub commit_count-append : (xs ys : List Event) → commit_count (xs ++ ys) ≡ commit_count xs + commit_count ys
commit_count-append [] ys = omega arith
commit_count-append (x ∷ xs) ys = omega (arith, commit_count-append xs ys)

pub any_commit_none : (events : List Event) → commit_count events ≡ 0 → list_any is_commit events ≡ false
any_commit_none [] h = refl
any_commit_none (event ∷ events) h =
    elim (is_commit event) as (λ b. cond b 1 0 + commit_count events ≡ 0 → (b || list_any is_commit events) ≡ false) [
      | true ↦ λ h. absurd (omega arith)
      | false ↦ λ h. any_commit_none events (omega arith)
    ] h

pub any_commit_some : (events : List Event) → 1 ≤ commit_count events → list_any is_commit events ≡ true
any_commit_some [] h = absurd (omega arith)
any_commit_some (event ∷ events) h =
    elim (is_commit event) as (λ b. 1 ≤ cond b 1 0 + commit_count events → (b || list_any is_commit events) ≡ true) [
      | true ↦ λ h. refl
      | false ↦ λ h. any_commit_some events (omega arith)
    ] h

pub numbered-append : (before : ℕ) (xs ys : List Event) → numbered before (xs ++ ys) ≡ numbered before xs ++ numbered (before + commit_count xs) ys
numbered-append before [] ys = ap (λ n. numbered n ys) (omega arith)
numbered-append before (x ∷ xs) ys =
    let head : Resting = record { level = rests_on before x; event = x } in
    ap (λ rest. head ∷ rest) (numbered-append (before + step x) xs ys ∙ ap (λ n. numbered (before + step x) xs ++ numbered n ys) (omega arith))

-- an Eliminate cites only answers up to n
abbrev pub CitesUpTo : ℕ → Event → Type 0
CitesUpTo n (Eliminate worker place verdict combination) = greatest_cited combination.answers ≤ n
CitesUpTo n (Issue desk place plus minus) = Unit {0}
CitesUpTo n (Commit desk question side plus minus point) = Unit {0}
CitesUpTo n (Close desk question) = Unit {0}
CitesUpTo n (Withdraw desk answer) = Unit {0}

cites_step : (a g n : ℕ) → 1 ≤ n → max a g ≤ n → ((a == n) || not (nat_lt g n)) ≡ not (nat_lt (max a g) n)
cites_step a g n some most = grind (arith, nat_tests)

cites_none : (n : ℕ) → 1 ≤ n → false ≡ not (nat_lt 0 n)
cites_none n some = grind (arith, nat_tests)

pub cites_greatest : (n : ℕ) (cites : List Cite) → 1 ≤ n → greatest_cited cites ≤ n
    → list_any (λ cite. cite.answer == n) cites ≡ not (nat_lt (greatest_cited cites) n)
cites_greatest n [] some most = cites_none n some
cites_greatest n (cite ∷ cites) some most =
    ap (λ b. (cite.answer == n) || b) (cites_greatest n cites some (omega arith)) ∙ cites_step cite.answer (greatest_cited cites) n some most

commit_taken : (before n : ℕ) (later : List Event) → n ≡ before + commit_count later → not (list_any is_commit later) ≡ not (nat_lt before n)
commit_taken before n later count =
    let go : (c : ℕ) → c ≡ commit_count later → not (list_any is_commit later) ≡ not (nat_lt before n) =
    λ c. elim c as (λ c. c ≡ commit_count later → not (list_any is_commit later) ≡ not (nat_lt before n)) [
      | zero ↦ λ e. rw (any_commit_none later (sym e)) (grind (arith, nat_tests))
      | suc c ↦ λ e. rw (any_commit_some later (omega arith)) (grind (arith, nat_tests))
    ]
    in go (commit_count later) refl

-- a withdrawal takes out what rests on all answers
pub is_taken_level : (before n : ℕ) (event : Event) (later : List Event) → n ≡ before + (step event + commit_count later) → 1 ≤ n → CitesUpTo n event
    → is_taken n true later event ≡ not (nat_lt (rests_on before event) n)
is_taken_level before n (Eliminate worker place verdict combination) later count some within = cites_greatest n combination.answers some within
is_taken_level before n (Issue desk place plus minus) later count some within = cites_none n some
is_taken_level before n (Commit desk question side plus minus point) later count some within = commit_taken (before + 1) n later (omega arith)
is_taken_level before n (Close desk question) later count some within = commit_taken before n later (omega arith)
is_taken_level before n (Withdraw desk answer) later count some within = cites_none n some

same_base : (b c : ℕ) (event : Event) (rest : List Event) (t : Bool) → rests_on b event ≡ rests_on c event
    → ((b c : ℕ) → numbered b rest ≡ numbered c rest) → numbered b (cond t rest (event ∷ rest)) ≡ numbered c (cond t rest (event ∷ rest))
same_base b c event rest t head ih =
    elim t as (λ t. numbered b (cond t rest (event ∷ rest)) ≡ numbered c (cond t rest (event ∷ rest))) [
      | true ↦ ih b c
      | false ↦
          (let first : ℕ → Resting = λ level. record { level = level; event = event } in
          ap (λ level. first level ∷ numbered (b + step event) rest) head ∙ ap (λ others. first (rests_on c event) ∷ others) (ih (b + step event) (c + step event)))
    ]

-- after the last Commit nothing is left whose number rests on what stands before it
numbered_base : (n : ℕ) (events : List Event) → commit_count events ≡ 0 → (b c : ℕ) → numbered b (without_taken n true events) ≡ numbered c (without_taken n true events)
numbered_base n [] none b c = refl
numbered_base n (Eliminate worker place verdict combination ∷ later) none b c =
    same_base b c (Eliminate worker place verdict combination) (without_taken n true later) (is_taken n true later (Eliminate worker place verdict combination)) refl
    (numbered_base n later (omega arith))
numbered_base n (Issue desk place plus minus ∷ later) none b c =
    same_base b c (Issue desk place plus minus) (without_taken n true later) false refl (numbered_base n later (omega arith))
numbered_base n (Commit desk question side plus minus point ∷ later) none b c = absurd (omega arith)
numbered_base n (Close desk question ∷ later) none b c =
    rw (any_commit_none later (omega arith)) (numbered_base n later (omega arith) b c)
numbered_base n (Withdraw desk answer ∷ later) none b c =
    same_base b c (Withdraw desk answer) (without_taken n true later) false refl (numbered_base n later (omega arith))

not_below : (a n : ℕ) → nat_lt a n ≡ false → n ≤ a
not_below a n h = grind (arith, nat_tests)

same_without : (before n : ℕ) (event : Event) (later : List Event) → n ≡ before + (step event + commit_count later) → nat_lt (rests_on before event) n ≡ false
    → numbered before (without_taken n true later) ≡ numbered (before + step event) (without_taken n true later)
same_without before n (Eliminate worker place verdict combination) later count high = ap (λ k. numbered k (without_taken n true later)) (omega arith)
same_without before n (Issue desk place plus minus) later count high = ap (λ k. numbered k (without_taken n true later)) (omega arith)
same_without before n (Commit desk question side plus minus point) later count high =
    numbered_base n later (omega (arith, not_below (before + 1) n high)) before (before + 1)
same_without before n (Close desk question) later count high = ap (λ k. numbered k (without_taken n true later)) (omega arith)
same_without before n (Withdraw desk answer) later count high = ap (λ k. numbered k (without_taken n true later)) (omega arith)

-- what is left is what rests on fewer answers
numbered-taken : (before n : ℕ) (events : List Event) → n ≡ before + commit_count events → 1 ≤ n → Each (CitesUpTo n) events
    → numbered before (without_taken n true events) ≡ filter (λ e. nat_lt e.level n) (numbered before events)
numbered-taken before n [] count some within = refl
numbered-taken before n (event ∷ later) count some within =
    let rest : List Event = without_taken n true later in
    let left : List Resting = filter (λ e. nat_lt e.level n) (numbered (before + step event) later) in
    let head : Resting = record { level = rests_on before event; event = event } in
    let ih : numbered (before + step event) rest ≡ left = numbered-taken (before + step event) n later (omega arith) some within.1 in
    let go : (b : Bool) → nat_lt (rests_on before event) n ≡ b → numbered before (cond (not b) rest (event ∷ rest)) ≡ cond b (head ∷ left) left =
    λ b. elim b as (λ b. nat_lt (rests_on before event) n ≡ b → numbered before (cond (not b) rest (event ∷ rest)) ≡ cond b (head ∷ left) left) [
      | true ↦ λ yes. ap (λ others. head ∷ others) ih
      | false ↦ λ no. same_without before n event later count no ∙ ih
    ]
    in rw (is_taken_level before n event later count some within.0) (go (nat_lt (rests_on before event) n) refl)

pub numbered-without : (n : ℕ) (events : List Event) → n ≡ commit_count events → 1 ≤ n → Each (CitesUpTo n) events
    → numbered 0 (without_answer n events) ≡ filter (λ e. nat_lt e.level n) (numbered 0 events)
numbered-without n events count some within =
    ap (λ has_commit. numbered 0 (without_taken n has_commit events)) (any_commit_some events (omega arith))
    ∙ numbered-taken 0 n events (omega arith) some within

module _ {Y : Type 0} (f : Event → Option Y) where
  -- the function gives something of Commits only
  abbrev pub OfCommits : Event → Type 0
  OfCommits (Eliminate worker place verdict combination) = f (Eliminate worker place verdict combination) ≡ None
  OfCommits (Issue desk place plus minus) = f (Issue desk place plus minus) ≡ None
  OfCommits (Commit desk question side plus minus point) = (y : Y) × (f (Commit desk question side plus minus point) ≡ Some y)
  OfCommits (Close desk question) = f (Close desk question) ≡ None
  OfCommits (Withdraw desk answer) = f (Withdraw desk answer) ≡ None

  pub length-filter_map : (events : List Event) → Each OfCommits events → length (filter_map f events) ≡ commit_count events
  length-filter_map [] each = refl
  length-filter_map (Eliminate worker place verdict combination ∷ later) each = rw (each.0) (omega (arith, length-filter_map later each.1))
  length-filter_map (Issue desk place plus minus ∷ later) each = rw (each.0) (omega (arith, length-filter_map later each.1))
  length-filter_map (Commit desk question side plus minus point ∷ later) each = rw (each.0.1) (omega (arith, length-filter_map later each.1))
  length-filter_map (Close desk question ∷ later) each = rw (each.0) (omega (arith, length-filter_map later each.1))
  length-filter_map (Withdraw desk answer ∷ later) each = rw (each.0) (omega (arith, length-filter_map later each.1))

  same_either : (event : Event) (rest : List Event) (t : Bool) → f event ≡ None → filter_map f (cond t rest (event ∷ rest)) ≡ filter_map f rest
  same_either event rest t none =
      elim t as (λ t. filter_map f (cond t rest (event ∷ rest)) ≡ filter_map f rest) [
        | true ↦ refl
        | false ↦ rw (none) refl
      ]

  last_or_kept : (event : Event) (later : List Event) (rest : List Event) (y : Y) → f event ≡ Some y
      → filter_map f rest ≡ take (commit_count later - 1) (filter_map f later)
      → filter_map f (cond (not (list_any is_commit later)) rest (event ∷ rest)) ≡ take ((1 + commit_count later) - 1) (y ∷ filter_map f later)
  last_or_kept event later rest y some ih =
      let whole : List Y = filter_map f later in
      let Kept : Bool → Type 0 = λ b. filter_map f (cond (not b) rest (event ∷ rest)) ≡ take ((1 + commit_count later) - 1) (y ∷ whole) in
      let go : (c : ℕ) → c ≡ commit_count later → Kept (list_any is_commit later) =
      λ c. elim c as (λ c. c ≡ commit_count later → Kept (list_any is_commit later)) [
        | zero ↦ λ e.
            (let gone : commit_count later - 1 ≡ 0 = omega arith in
            let first : (1 + commit_count later) - 1 ≡ 0 = omega arith in
            rw (any_commit_none later (sym e)) (ih ∙ ap (λ k. take k whole) gone ∙ sym (ap (λ k. take k (y ∷ whole)) first)))
        | suc c ↦ λ e.
            (let one : suc (commit_count later - 1) ≡ (1 + commit_count later) - 1 = omega arith in
            rw (any_commit_some later (omega arith), some) (ap (λ others. y ∷ others) ih ∙ ap (λ k. take k (y ∷ whole)) one))
      ]
      in go (commit_count later) refl

  -- what the last Commit gives is gone
  filter_map-taken : (n : ℕ) (has_commit : Bool) (events : List Event) → Each OfCommits events
      → filter_map f (without_taken n has_commit events) ≡ take (commit_count events - 1) (filter_map f events)
  filter_map-taken n has_commit [] each = refl
  filter_map-taken n has_commit (Eliminate worker place verdict combination ∷ later) each =
      let event : Event = Eliminate worker place verdict combination in
      same_either event (without_taken n has_commit later) (is_taken n has_commit later event) each.0 ∙ filter_map-taken n has_commit later each.1
      ∙ rw (each.0) (ap (λ k. take (k - 1) (filter_map f later)) (omega arith))
  filter_map-taken n has_commit (Issue desk place plus minus ∷ later) each =
      same_either (Issue desk place plus minus) (without_taken n has_commit later) false each.0 ∙ filter_map-taken n has_commit later each.1
      ∙ rw (each.0) (ap (λ k. take (k - 1) (filter_map f later)) (omega arith))
  filter_map-taken n has_commit (Commit desk question side plus minus point ∷ later) each =
      let event : Event = Commit desk question side plus minus point in
      last_or_kept event later (without_taken n has_commit later) each.0.0 each.0.1 (filter_map-taken n has_commit later each.1)
      ∙ rw (each.0.1) refl
  filter_map-taken n has_commit (Close desk question ∷ later) each =
      same_either (Close desk question) (without_taken n has_commit later) (has_commit && not (list_any is_commit later)) each.0 ∙ filter_map-taken n has_commit later each.1
      ∙ rw (each.0) (ap (λ k. take (k - 1) (filter_map f later)) (omega arith))
  filter_map-taken n has_commit (Withdraw desk answer ∷ later) each =
      same_either (Withdraw desk answer) (without_taken n has_commit later) false each.0 ∙ filter_map-taken n has_commit later each.1
      ∙ rw (each.0) (ap (λ k. take (k - 1) (filter_map f later)) (omega arith))

  pub filter_map-without : (n : ℕ) (events : List Event) → Each OfCommits events
      → filter_map f (without_answer n events) ≡ take (commit_count events - 1) (filter_map f events)
  filter_map-without n events each = filter_map-taken n (list_any is_commit events) events each

-- a fact of each numbered event, as one of each event
pub Each-events : (P : Event → Type 0) (before : ℕ) (events : List Event) → Each (λ e. P e.event) (numbered before events) → Each P events
Each-events P before [] each = tt
Each-events P before (event ∷ later) each = (each.0, Each-events P (before + step event) later each.1)
