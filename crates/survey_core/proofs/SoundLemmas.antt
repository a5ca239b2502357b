-- What the standing events of a legal history say, event by event.
use Rattle.std.proofs.Common.{◌≡◌, ℕ, zero, suc, ◌+◌, ◌-◌, ◌<◌, ◌≤◌, true, false, nat_lt, List, [], ◌∷◌, ◌++◌, length, take, Option, Some, None, slice_get, ℤ, refl, ap, sym, subst, ◌∙◌, inl, inr, arith, append-nil, length-take, length-append}
use Rattle.std.specs.Option.{option_map}
use Rattle.std.specs.List.{filter, filter_map, cons_option}
use Rattle.std.proofs.lemmas.List.{take-append-le}
use Rattle.std.proofs.lemmas.List.Elements.{filter_map-append}
use Rattle.std.proofs.lemmas.Bool.Decides.{nat_tests}
use Rattle.std.proofs.lemmas.Option.{none-some}
use Rattle.criteria_model.specs.declared.pairs.Pair.{Pair}
use Rattle.criteria_model.specs.declared.pairs.Answer.{Answer}
use Rattle.criteria_model.specs.declared.pairs.Side.{Side}
use Rattle.criteria_model.specs.Answers.{MeetsAll, IsRanked}
use Rattle.farkas_check.specs.declared.combination.Combination.{Combination}
use Rattle.farkas_check.specs.Proof.{IsThere, Proves}
use Rattle.pair_enumeration.specs.Listed.{Listed}
use Rattle.survey_core.specs.declared.events.Event.{Event}
use Rattle.survey_core.specs.declared.events.Event.TheVariants.{Eliminate, Issue, Commit, Close, Withdraw}
use Rattle.survey_core.specs.Kinds.{issued_place}
use Rattle.survey_core.specs.Histories.{standing, issued, is_issued, is_unended, place_of, class_at, class_of, answer_of, committed}
use Rattle.survey_core.specs.Legal.{IsPlace, IsLegal}
use Rattle.survey_core.proofs.NamedParts.{MayEliminate, MayIssue, MayCommit, MayClose, MayWithdraw, HasParts, named}
use Rattle.survey_core.specs.Marked.{greatest_cited, rests_on, Resting, numbered, resting}
use Rattle.survey_core.proofs.ListSteps.{Each, Each-append, Each-map, Each-filter, All-Each, slice_get-take, slice_get-append, slice_get-push, slice_get-last, take-take, filter_map-same, some_and, and_then_some, any_at, filtered_range, take_whole, slice_get_inside, take_next}
use Rattle.row_laws.proofs.ItemLemmas.{item_at-append}
use Rattle.survey_core.proofs.StandingLemmas.{standing-push, issued-push, commit_count, numbered-append, CitesUpTo, numbered-without, OfCommits, length-filter_map, filter_map-without, Each-events}
use Rattle.survey_core.proofs.CitedLemmas.{greatest_within, ranked_by_cited}

-- a standing Eliminate: the first answers, up to the last that it cites, rank the class
pub record SoundEliminate (listed : Listed) (answers : List Answer) (level place : ℕ) (verdict : Side) (combination : Combination) : Type 0 where
  pub greatest : level ≡ greatest_cited combination.answers
  pub within : level ≤ length answers
  pub pair : Pair
  pub class : class_at listed.classes place ≡ Some pair
  pub ranked : IsRanked listed.criteria.levels (take level answers) pair verdict

-- a standing Commit: its answer has its number, and its point meets the answers up to that
pub record SoundCommit (listed : Listed) (asked : List ℕ) (answers : List Answer) (level question : ℕ) (side : Side) (point : List ℤ) : Type 0 where
  pub numbered_from_one : 1 ≤ level
  pub within : level ≤ length answers
  pub question_from_one : 1 ≤ question
  pub place : ℕ
  pub asks : place_of asked question ≡ Some place
  pub pair : Pair
  pub class : class_at listed.classes place ≡ Some pair
  pub answer : slice_get answers (level - 1) ≡ Some (record { pair = pair; side = side })
  pub met : MeetsAll listed.criteria.levels (take level answers) point

-- the question was issued
abbrev pub IsAsked : List ℕ → ℕ → Type 0
IsAsked asked question = (1 ≤ question) × (question ≤ length asked)

abbrev pub IsSoundAt : Listed → List ℕ → List Answer → ℕ → Event → Type 0
IsSoundAt listed asked answers level (Eliminate worker place verdict combination) = SoundEliminate listed answers level place verdict combination
IsSoundAt listed asked answers level (Issue desk place plus minus) = Unit {0}
IsSoundAt listed asked answers level (Commit desk question side plus minus point) = SoundCommit listed asked answers level question side point
IsSoundAt listed asked answers level (Close desk question) = IsAsked asked question
IsSoundAt listed asked answers level (Withdraw desk answer) = Unit {0}

-- places of classes, each once; and each standing event is sound
pub record IsSound (listed : Listed) (history : List Event) : Type 0 where
  pub places : Each (IsPlace listed) (issued history)
  pub once : (i j place : ℕ) → slice_get (issued history) i ≡ Some place → slice_get (issued history) j ≡ Some place → i ≡ j
  pub each : Each (λ e. IsSoundAt listed (issued history) (committed listed.classes history) e.level e.event) (resting history)

-- ---- what stays sound
sound_longer : (listed : Listed) (asked more : List ℕ) (answers others : List Answer) (level : ℕ) (event : Event)
    → IsSoundAt listed asked answers level event → IsSoundAt listed (asked ++ more) (answers ++ others) level event
sound_longer listed asked more answers others level (Eliminate worker place verdict combination) s = record {
  greatest = s.greatest;
  within = omega (arith, s.within, length-append answers others);
  pair = s.pair;
  class = s.class;
  ranked =
      subst (λ (l : List Answer). IsRanked listed.criteria.levels l s.pair verdict) (sym (take-append-le level answers others s.within)) s.ranked;
}
sound_longer listed asked more answers others level (Issue desk place plus minus) s = tt
sound_longer listed asked more answers others level (Commit desk question side plus minus point) s = record {
  numbered_from_one = s.numbered_from_one;
  within = omega (arith, s.within, length-append answers others);
  question_from_one = s.question_from_one;
  place = s.place;
  asks = item_at-append asked more question s.place s.asks;
  pair = s.pair;
  class = s.class;
  answer = slice_get-append answers others (level - 1) (record { pair = s.pair; side = side }) s.answer;
  met = subst (λ (l : List Answer). MeetsAll listed.criteria.levels l point) (sym (take-append-le level answers others s.within)) s.met;
}
sound_longer listed asked more answers others level (Close desk question) s = (s.0, omega (arith, s.1, length-append asked more))
sound_longer listed asked more answers others level (Withdraw desk answer) s = tt

sound_shorter : (listed : Listed) (asked : List ℕ) (answers : List Answer) (n level : ℕ) (event : Event) → level ≤ n → n ≤ length answers
    → IsSoundAt listed asked answers level event → IsSoundAt listed asked (take n answers) level event
sound_shorter listed asked answers n level (Eliminate worker place verdict combination) low high s = record {
  greatest = s.greatest;
  within = omega (arith, length-take n answers);
  pair = s.pair;
  class = s.class;
  ranked = subst (λ (l : List Answer). IsRanked listed.criteria.levels l s.pair verdict) (sym (take-take level n answers low)) s.ranked;
}
sound_shorter listed asked answers n level (Issue desk place plus minus) low high s = tt
sound_shorter listed asked answers n level (Commit desk question side plus minus point) low high s = record {
  numbered_from_one = s.numbered_from_one;
  within = omega (arith, length-take n answers);
  question_from_one = s.question_from_one;
  place = s.place;
  asks = s.asks;
  pair = s.pair;
  class = s.class;
  answer = slice_get-take n answers (level - 1) (omega (arith, s.numbered_from_one)) ∙ s.answer;
  met = subst (λ (l : List Answer). MeetsAll listed.criteria.levels l point) (sym (take-take level n answers low)) s.met;
}
sound_shorter listed asked answers n level (Close desk question) low high s = s
sound_shorter listed asked answers n level (Withdraw desk answer) low high s = tt

-- ---- the answers and the Commits
sound_class : (listed : Listed) (asked : List ℕ) (answers : List Answer) (level question : ℕ) (side : Side) (point : List ℤ)
    → (s : SoundCommit listed asked answers level question side point) → class_of listed.classes asked question ≡ Some s.pair
sound_class listed asked answers level question side point s = rw (s.asks) s.class

of_commits : (listed : Listed) (asked : List ℕ) (answers : List Answer) (level : ℕ) (event : Event) → IsSoundAt listed asked answers level event
    → OfCommits (answer_of listed.classes asked) event
of_commits listed asked answers level (Eliminate worker place verdict combination) s = refl
of_commits listed asked answers level (Issue desk place plus minus) s = refl
of_commits listed asked answers level (Commit desk question side plus minus point) s =
    (record { pair = s.pair; side = side }, rw (sound_class listed asked answers level question side point s) refl)
of_commits listed asked answers level (Close desk question) s = refl
of_commits listed asked answers level (Withdraw desk answer) s = refl

same_answer : (listed : Listed) (asked more : List ℕ) (answers : List Answer) (level : ℕ) (event : Event) → IsSoundAt listed asked answers level event
    → answer_of listed.classes (asked ++ more) event ≡ answer_of listed.classes asked event
same_answer listed asked more answers level (Eliminate worker place verdict combination) s = refl
same_answer listed asked more answers level (Issue desk place plus minus) s = refl
same_answer listed asked more answers level (Commit desk question side plus minus point) s =
    let longer : place_of (asked ++ more) question ≡ Some s.place = item_at-append asked more question s.place s.asks in
    rw (longer, s.asks) refl
same_answer listed asked more answers level (Close desk question) s = refl
same_answer listed asked more answers level (Withdraw desk answer) s = refl

cites_up_to : (listed : Listed) (asked : List ℕ) (answers : List Answer) (level : ℕ) (event : Event) → IsSoundAt listed asked answers level event
    → CitesUpTo (length answers) event
cites_up_to listed asked answers level (Eliminate worker place verdict combination) s = omega (arith, s.greatest, s.within)
cites_up_to listed asked answers level (Issue desk place plus minus) s = tt
cites_up_to listed asked answers level (Commit desk question side plus minus point) s = tt
cites_up_to listed asked answers level (Close desk question) s = tt
cites_up_to listed asked answers level (Withdraw desk answer) s = tt

pub issued-same : (history : List Event) (event : Event) → issued_place event ≡ None → issued (history ++ event ∷ []) ≡ issued history
issued-same history event unasked = issued-push history event ∙ rw unasked (append-nil (issued history))

are_sound : (listed : Listed) (after : List Event) (asked : List ℕ) (answers : List Answer) (events : List Resting) → issued after ≡ asked
    → committed listed.classes after ≡ answers → resting after ≡ events → Each (λ e. IsSoundAt listed asked answers e.level e.event) events
    → Each (λ e. IsSoundAt listed (issued after) (committed listed.classes after) e.level e.event) (resting after)
are_sound listed after asked answers events asked_is answers_is resting_is each =
    subst (λ (l : List ℕ). Each (λ e. IsSoundAt listed l (committed listed.classes after) e.level e.event) (resting after)) (sym asked_is)
    (subst (λ (l : List Answer). Each (λ e. IsSoundAt listed asked l e.level e.event) (resting after)) (sym answers_is)
    (subst (λ (l : List Resting). Each (λ e. IsSoundAt listed asked answers e.level e.event) l) (sym resting_is) each))

below : (a n : ℕ) → nat_lt a n ≡ true → a < n
below a n h = grind (arith, nat_tests)

module _ (listed : Listed) (history : List Event) (sound : IsSound listed history) where
  abbrev answers : List Answer
  answers = committed listed.classes history

  pub each_of_commits : Each (OfCommits (answer_of listed.classes (issued history))) (standing history)
  each_of_commits =
      Each-events (OfCommits (answer_of listed.classes (issued history))) 0 (standing history)
      (Each-map (λ e. IsSoundAt listed (issued history) answers e.level e.event) (λ e. OfCommits (answer_of listed.classes (issued history)) e.event)
      (λ e. of_commits listed (issued history) answers e.level e.event) (resting history) sound.each)

  -- there are as many answers as standing Commits
  pub answers_count : length answers ≡ commit_count (standing history)
  answers_count = length-filter_map (answer_of listed.classes (issued history)) (standing history) each_of_commits

  pub each_cites : Each (CitesUpTo (length answers)) (standing history)
  each_cites =
      Each-events (CitesUpTo (length answers)) 0 (standing history)
      (Each-map (λ e. IsSoundAt listed (issued history) answers e.level e.event) (λ e. CitesUpTo (length answers) e.event)
      (λ e. cites_up_to listed (issued history) answers e.level e.event) (resting history) sound.each)

  -- with more questions the answers are the same
  pub same_committed : (more : List ℕ) → filter_map (answer_of listed.classes (issued history ++ more)) (standing history) ≡ answers
  same_committed more =
      filter_map-same (answer_of listed.classes (issued history ++ more)) (answer_of listed.classes (issued history)) (standing history)
      (Each-events (λ e. answer_of listed.classes (issued history ++ more) e ≡ answer_of listed.classes (issued history) e) 0 (standing history)
      (Each-map (λ e. IsSoundAt listed (issued history) answers e.level e.event)
      (λ e. answer_of listed.classes (issued history ++ more) e.event ≡ answer_of listed.classes (issued history) e.event)
      (λ e. same_answer listed (issued history) more answers e.level e.event) (resting history) sound.each))

  -- a withdrawal takes the last answer
  pub committed-withdraw : (desk n : ℕ) → n ≡ length answers → committed listed.classes (history ++ Withdraw desk n ∷ []) ≡ take (length answers - 1) answers
  committed-withdraw desk n count =
      let event : Event = Withdraw desk n in
      let f : List ℕ → Event → Option Answer = answer_of listed.classes in
      ap (λ asked. filter_map (f asked) (standing (history ++ event ∷ []))) (issued-same history event refl)
      ∙ ap (λ events. filter_map (f (issued history)) events) (standing-push history event)
      ∙ filter_map-without (f (issued history)) n (standing history) each_of_commits ∙ ap (λ k. take (k - 1) answers) (sym answers_count)

  -- and leaves what rests on the others
  pub resting-withdraw : (desk n : ℕ) → 1 ≤ n → n ≡ length answers
      → resting (history ++ Withdraw desk n ∷ []) ≡ filter (λ e. nat_lt e.level n) (resting history)
  resting-withdraw desk n some count =
      ap (λ events. numbered 0 events) (standing-push history (Withdraw desk n))
      ∙ numbered-without n (standing history) (omega (arith, answers_count)) some
      (subst (λ (k : ℕ). Each (CitesUpTo k) (standing history)) (sym count) each_cites)

  -- any other event is put at the end
  pub resting-push : (event : Event) → standing (history ++ event ∷ []) ≡ standing history ++ event ∷ []
      → resting (history ++ event ∷ []) ≡ resting history ++ record { level = rests_on (length answers) event; event = event } ∷ []
  resting-push event put =
      ap (λ events. numbered 0 events) put ∙ numbered-append 0 (standing history) (event ∷ [])
      ∙ ap (λ k. resting history ++ numbered k (event ∷ [])) (omega (arith, answers_count))

  -- with what it commits
  pub committed-push : (event : Event) → issued_place event ≡ None → standing (history ++ event ∷ []) ≡ standing history ++ event ∷ []
      → committed listed.classes (history ++ event ∷ []) ≡ answers ++ cons_option (answer_of listed.classes (issued history) event) []
  committed-push event unasked put =
      let f : List ℕ → Event → Option Answer = answer_of listed.classes in
      ap (λ asked. filter_map (f asked) (standing (history ++ event ∷ []))) (issued-same history event unasked)
      ∙ ap (λ events. filter_map (f (issued history)) events) put ∙ filter_map-append (f (issued history)) (standing history) (event ∷ [])

  pub committed-issue : (desk place : ℕ) (plus minus : List ℤ) → committed listed.classes (history ++ Issue desk place plus minus ∷ []) ≡ answers
  committed-issue desk place plus minus =
      let event : Event = Issue desk place plus minus in
      let f : List ℕ → Event → Option Answer = answer_of listed.classes in
      ap (λ asked. filter_map (f asked) (standing (history ++ event ∷ []))) (issued-push history event)
      ∙ ap (λ events. filter_map (f (issued history ++ place ∷ [])) events) (standing-push history event)
      ∙ filter_map-append (f (issued history ++ place ∷ [])) (standing history) (event ∷ [])
      ∙ append-nil (filter_map (f (issued history ++ place ∷ [])) (standing history)) ∙ same_committed (place ∷ [])

  -- ---- one more event
  sound_made : (after : List Event) (more : List ℕ) (others : List Answer) (level : ℕ) (event : Event) → issued after ≡ issued history ++ more
      → committed listed.classes after ≡ answers ++ others → resting after ≡ resting history ++ record { level = level; event = event } ∷ []
      → Each (IsPlace listed) more
      → ((i j place : ℕ) → slice_get (issued history ++ more) i ≡ Some place → slice_get (issued history ++ more) j ≡ Some place → i ≡ j)
      → IsSoundAt listed (issued history ++ more) (answers ++ others) level event → IsSound listed after
  sound_made after more others level event asked_is answers_is resting_is places once here = record {
    places = subst (λ (asked : List ℕ). Each (IsPlace listed) asked) (sym asked_is) (Each-append (IsPlace listed) (issued history) more sound.places places);
    once =
        subst (λ (asked : List ℕ). (i j place : ℕ) → slice_get asked i ≡ Some place → slice_get asked j ≡ Some place → i ≡ j) (sym asked_is) once;
    each =
        are_sound listed after (issued history ++ more) (answers ++ others) (resting history ++ record { level = level; event = event } ∷ []) asked_is answers_is resting_is
        (Each-append (λ e. IsSoundAt listed (issued history ++ more) (answers ++ others) e.level e.event) (resting history) (record { level = level; event = event } ∷ [])
        (Each-map (λ e. IsSoundAt listed (issued history) answers e.level e.event) (λ e. IsSoundAt listed (issued history ++ more) (answers ++ others) e.level e.event)
        (λ e. sound_longer listed (issued history) more answers others e.level e.event) (resting history) sound.each)
        (here, tt));
  }

  once_same : (i j place : ℕ) → slice_get (issued history ++ []) i ≡ Some place → slice_get (issued history ++ []) j ≡ Some place → i ≡ j
  once_same = rw (append-nil (issued history)) sound.once

  pub sound_eliminate : (worker place : ℕ) (verdict : Side) (combination : Combination) → MayEliminate listed history place verdict combination
      → IsSound listed (history ++ Eliminate worker place verdict combination ∷ [])
  sound_eliminate worker place verdict combination may =
      let event : Event = Eliminate worker place verdict combination in
      let proved : (pair : Pair) × (class_at listed.classes place ≡ Some pair) × Proves listed.criteria.levels answers combination pair verdict =
      some_and (class_at listed.classes place) (λ pair. Proves listed.criteria.levels answers combination pair verdict) may.proved in
      let within : greatest_cited combination.answers ≤ length answers =
      greatest_within combination.answers (length answers)
      (Each-map (IsThere answers) (λ cite. cite.answer ≤ length answers) (λ cite h. h.1) combination.answers
      (All-Each (IsThere answers) combination.answers proved.2.cited)) in
      let here : IsSoundAt listed (issued history) answers (greatest_cited combination.answers) event = record {
        greatest = refl;
        within = within;
        pair = proved.0;
        class = proved.1;
        ranked = ranked_by_cited listed.criteria.levels answers combination proved.0 verdict proved.2;
      } in
      sound_made (history ++ event ∷ []) [] [] (greatest_cited combination.answers) event (issued-push history event)
      (committed-push event refl (standing-push history event)) (resting-push event (standing-push history event)) tt once_same
      (sound_longer listed (issued history) [] answers [] (greatest_cited combination.answers) event here)

  pub sound_close : (desk question : ℕ) → MayClose history question → IsSound listed (history ++ Close desk question ∷ [])
  sound_close desk question may =
      let event : Event = Close desk question in
      let asked : List ℕ = issued history in
      let found : (1 ≤ question) × (question < 1 + length asked) × (is_unended history question ≡ true) =
      filtered_range (is_unended history) 1 (length asked) question may.open_question in
      sound_made (history ++ event ∷ []) [] [] (length answers) event (issued-push history event)
      (committed-push event refl (standing-push history event)) (resting-push event (standing-push history event)) tt once_same
      (found.0, omega (arith, found.1, length-append asked []))

  pub sound_issue : (desk place : ℕ) (plus minus : List ℤ) → MayIssue listed history place plus minus → IsSound listed (history ++ Issue desk place plus minus ∷ [])
  sound_issue desk place plus minus may =
      let event : Event = Issue desk place plus minus in
      let asked : List ℕ = issued history in
      let twice : (i p : ℕ) → slice_get asked i ≡ Some p → place ≡ p → ⊥ =
      λ i p found same.
      (let yes : is_issued history place ≡ true = any_at asked i place (found ∙ ap Some (sym same)) in
      let both : true ≡ false = sym yes ∙ may.unasked in cc) in
      let once : (i j p : ℕ) → slice_get (asked ++ place ∷ []) i ≡ Some p → slice_get (asked ++ place ∷ []) j ≡ Some p → i ≡ j =
      λ i j p at_i at_j.
      elim (slice_get-push asked place i p at_i) [
        | inl a ↦ elim (slice_get-push asked place j p at_j) [ inl b ↦ sound.once i j p a b | inr b ↦ absurd (twice i p a b.1) ]
        | inr a ↦ elim (slice_get-push asked place j p at_j) [ inl b ↦ absurd (twice j p b a.1) | inr b ↦ omega (arith, a.0, b.0) ]
      ] in
      sound_made (history ++ event ∷ []) (place ∷ []) [] 0 event (issued-push history event)
      (committed-issue desk place plus minus ∙ sym (append-nil answers)) (resting-push event (standing-push history event)) (may.class, tt) once tt

  pub sound_commit : (desk question : ℕ) (side : Side) (plus minus point : List ℤ) → MayCommit listed history question side plus minus point
      → IsSound listed (history ++ Commit desk question side plus minus point ∷ [])
  sound_commit desk question side plus minus point may =
      let event : Event = Commit desk question side plus minus point in
      let asked : List ℕ = issued history in
      let met : (pair : Pair) × (class_of listed.classes asked question ≡ Some pair) × MeetsAll listed.criteria.levels (answers ++ record { pair = pair; side = side } ∷ []) point =
      some_and (class_of listed.classes asked question) (λ pair. MeetsAll listed.criteria.levels (answers ++ record { pair = pair; side = side } ∷ []) point) may.met in
      let at : (place : ℕ) × (place_of asked question ≡ Some place) × (class_at listed.classes place ≡ Some met.0) =
      and_then_some (class_at listed.classes) (place_of asked question) met.0 met.1 in
      let given : Answer = record { pair = met.0; side = side } in
      let whole : take (length answers + 1) (answers ++ given ∷ []) ≡ answers ++ given ∷ [] =
      take_whole (length answers + 1) (answers ++ given ∷ []) (omega (arith, length-append answers (given ∷ []))) in
      let last : length answers ≡ length answers + 1 - 1 = omega arith in
      let here : SoundCommit listed (asked ++ []) (answers ++ given ∷ []) (length answers + 1) question side point = record {
        numbered_from_one = omega arith;
        within = omega (arith, length-append answers (given ∷ []));
        question_from_one = (filtered_range (is_unended history) 1 (length asked) question may.open_question).0;
        place = at.0;
        asks = item_at-append asked [] question at.0 at.1;
        pair = met.0;
        class = at.2;
        answer = subst (λ (k : ℕ). slice_get (answers ++ given ∷ []) k ≡ Some given) last (slice_get-last answers given);
        met = subst (λ (l : List Answer). MeetsAll listed.criteria.levels l point) (sym whole) met.2;
      } in
      sound_made (history ++ event ∷ []) [] (given ∷ []) (length answers + 1) event (issued-push history event)
      (committed-push event refl (standing-push history event)
      ∙ ap (λ (o : Option Pair). answers ++ cons_option (option_map (λ pair. record { pair = pair; side = side }) o) []) met.1)
      (resting-push event (standing-push history event)) tt once_same here

  pub sound_withdraw : (desk n : ℕ) → MayWithdraw listed history n → IsSound listed (history ++ Withdraw desk n ∷ [])
  sound_withdraw desk n may =
      let after : List Event = history ++ Withdraw desk n ∷ [] in
      let asked_is : issued after ≡ issued history = issued-same history (Withdraw desk n) refl in
      let left : ℕ = length answers - 1 in
      record {
        places = subst (λ (asked : List ℕ). Each (IsPlace listed) asked) (sym asked_is) sound.places;
        once =
            subst (λ (asked : List ℕ). (i j place : ℕ) → slice_get asked i ≡ Some place → slice_get asked j ≡ Some place → i ≡ j) (sym asked_is) sound.once;
        each =
            are_sound listed after (issued history) (take left answers) (filter (λ e. nat_lt e.level n) (resting history)) asked_is
            (committed-withdraw desk n may.last_answer.1) (resting-withdraw desk n may.last_answer.0 may.last_answer.1)
            (Each-map (λ e. IsSoundAt listed (issued history) answers e.level e.event × (nat_lt e.level n ≡ true))
            (λ e. IsSoundAt listed (issued history) (take left answers) e.level e.event)
            (λ e s. sound_shorter listed (issued history) answers left e.level e.event (omega (arith, below e.level n s.1, may.last_answer.1)) (omega arith) s.0)
            (filter (λ e. nat_lt e.level n) (resting history))
            (Each-filter (λ e. IsSoundAt listed (issued history) answers e.level e.event) (λ e. nat_lt e.level n) (resting history) sound.each));
      }

  -- what may follow keeps it
  pub sound_next : (event : Event) → HasParts listed history event → IsSound listed (history ++ event ∷ [])
  sound_next (Eliminate worker place verdict combination) may = sound_eliminate worker place verdict combination may
  sound_next (Issue desk place plus minus) may = sound_issue desk place plus minus may
  sound_next (Commit desk question side plus minus point) may = sound_commit desk question side plus minus point may
  sound_next (Close desk question) may = sound_close desk question may
  sound_next (Withdraw desk answer) may = sound_withdraw desk answer may

sound_first : (listed : Listed) (history : List Event) → IsLegal listed history → (k : ℕ) → k ≤ length history → IsSound listed (take k history)
sound_first listed history legal zero within = record { places = tt; once = λ i j place h. absurd (none-some place h); each = tt }
sound_first listed history legal (suc k) within =
    let found : (event : Event) × (slice_get history k ≡ Some event) = slice_get_inside history k (omega arith) in
    let before : IsSound listed (take k history) = sound_first listed history legal k (omega arith) in
    subst (λ (events : List Event). IsSound listed events) (sym (take_next history k found.0 found.1))
    (sound_next listed (take k history) before found.0 (named listed (take k history) found.0 (legal k found.0 found.1).1))

-- a legal history is sound
pub sound_history : (listed : Listed) (history : List Event) → IsLegal listed history → IsSound listed history
sound_history listed history legal =
    subst (λ (events : List Event). IsSound listed events) (take_whole (length history) history (omega arith))
    (sound_first listed history legal (length history) (omega arith))
