-- Which classes a history ranks and asked, after one more event.
use Rattle.std.proofs.Common.{◌≡◌, ℕ, Bool, true, false, ◌||◌, ◌==◌, List, [], ◌∷◌, ◌++◌, Option, Some, None, ℤ, refl, ap, sym, ◌∙◌}
use Rattle.std.specs.Option.{option_map_or}
use Rattle.std.specs.List.{list_any}
use Rattle.std.proofs.lemmas.List.Folds.{list_any-append}
use Rattle.criteria_model.specs.declared.pairs.Answer.{Answer}
use Rattle.pair_enumeration.specs.Listed.{Listed}
use Rattle.row_laws.proofs.ItemLemmas.{item_at-append}
use Rattle.survey_core.specs.declared.events.Event.{Event}
use Rattle.survey_core.specs.declared.events.Event.TheVariants.{Eliminate, Issue, Commit, Close, Withdraw}
use Rattle.survey_core.specs.Kinds.{eliminates, issued_place}
use Rattle.survey_core.specs.Histories.{standing, issued, is_issued, place_of, committed, commits_class, is_eliminated, is_committed, is_ranked}
use Rattle.survey_core.specs.Marked.{resting}
use Rattle.survey_core.proofs.ListSteps.{Each, Each-map}
use Rattle.survey_core.proofs.StandingLemmas.{standing-push, issued-push, Each-events}
use Rattle.survey_core.proofs.SoundLemmas.{IsSoundAt, IsSound, issued-same}
use Rattle.survey_core.proofs.NextTables.{or_nothing, or_something}

or_pairs : (a b p q : Bool) → ((a || p) || (b || q)) ≡ ((a || b) || (p || q))
or_pairs true b p q = refl
or_pairs false b true q = sym (or_something b)
or_pairs false b false q = refl

any_push : (p : Event → Bool) (events : List Event) (event : Event) → list_any p (events ++ event ∷ []) ≡ (list_any p events || p event)
any_push p events event = list_any-append p events (event ∷ []) ∙ ap (λ b. list_any p events || b) (or_nothing (p event))

any_same : {X : Type 0} (p q : X → Bool) (xs : List X) → Each (λ x. p x ≡ q x) xs → list_any p xs ≡ list_any q xs
any_same p q [] hs = refl
any_same p q (x ∷ xs) hs = ap (λ b. b || list_any p xs) hs.0 ∙ ap (λ b. q x || b) (any_same p q xs hs.1)

-- an event that is put at the end, and asks nothing
module _ (history : List Event) (event : Event) (put : standing (history ++ event ∷ []) ≡ standing history ++ event ∷ []) (unasked : issued_place event ≡ None) where
  pub ranked-push : (place : ℕ) → is_ranked (history ++ event ∷ []) place ≡ (is_ranked history place || (eliminates place event || commits_class (issued history) place event))
  ranked-push place =
      let after : List Event = history ++ event ∷ [] in
      let one : is_eliminated after place ≡ (is_eliminated history place || eliminates place event) =
      ap (λ events. list_any (eliminates place) events) put ∙ any_push (eliminates place) (standing history) event in
      let other : is_committed after place ≡ (is_committed history place || commits_class (issued history) place event) =
      ap (λ asked. list_any (commits_class asked place) (standing after)) (issued-same history event unasked)
      ∙ ap (λ events. list_any (commits_class (issued history) place) events) put ∙ any_push (commits_class (issued history) place) (standing history) event in
      ap (λ b. b || is_committed after place) one
      ∙ ap (λ b. (is_eliminated history place || eliminates place event) || b) other
      ∙ or_pairs (is_eliminated history place) (is_committed history place) (eliminates place event) (commits_class (issued history) place event)

pub asked-same : (history : List Event) (event : Event) → issued_place event ≡ None → (place : ℕ) → is_issued (history ++ event ∷ []) place ≡ is_issued history place
asked-same history event unasked place = ap (λ (asked : List ℕ). list_any (λ a. a == place) asked) (issued-same history event unasked)

-- a question that was asked has the same class among more of them
same_commits : (listed : Listed) (asked more : List ℕ) (answers : List Answer) (place level : ℕ) (event : Event) → IsSoundAt listed asked answers level event
    → commits_class (asked ++ more) place event ≡ commits_class asked place event
same_commits listed asked more answers place level (Eliminate worker other verdict combination) s = refl
same_commits listed asked more answers place level (Issue desk other plus minus) s = refl
same_commits listed asked more answers place level (Commit desk question side plus minus point) s =
    let longer : place_of (asked ++ more) question ≡ Some s.place = item_at-append asked more question s.place s.asks in
    ap (λ (o : Option ℕ). option_map_or (λ other. other == place) o false) (longer ∙ sym s.asks)
same_commits listed asked more answers place level (Close desk question) s = refl
same_commits listed asked more answers place level (Withdraw desk answer) s = refl

module _ (listed : Listed) (history : List Event) (sound : IsSound listed history) (desk asks : ℕ) (plus minus : List ℤ) where
  -- a question ranks nothing
  pub ranked-issue : (place : ℕ) → is_ranked (history ++ Issue desk asks plus minus ∷ []) place ≡ is_ranked history place
  ranked-issue place =
      let event : Event = Issue desk asks plus minus in
      let after : List Event = history ++ event ∷ [] in
      let asked : List ℕ = issued history in
      let more : List ℕ = asked ++ asks ∷ [] in
      let one : is_eliminated after place ≡ is_eliminated history place =
      ap (λ events. list_any (eliminates place) events) (standing-push history event) ∙ any_push (eliminates place) (standing history) event
      ∙ or_nothing (is_eliminated history place) in
      let same : list_any (commits_class more place) (standing history) ≡ is_committed history place =
      any_same (commits_class more place) (commits_class asked place) (standing history)
      (Each-events (λ e. commits_class more place e ≡ commits_class asked place e) 0 (standing history)
      (Each-map (λ e. IsSoundAt listed asked (committed listed.classes history) e.level e.event)
      (λ e. commits_class more place e.event ≡ commits_class asked place e.event)
      (λ e. same_commits listed asked (asks ∷ []) (committed listed.classes history) place e.level e.event) (resting history) sound.each)) in
      let other : is_committed after place ≡ is_committed history place =
      ap (λ places. list_any (commits_class places place) (standing after)) (issued-push history event)
      ∙ ap (λ events. list_any (commits_class more place) events) (standing-push history event)
      ∙ any_push (commits_class more place) (standing history) event ∙ or_nothing (list_any (commits_class more place) (standing history)) ∙ same in
      ap (λ b. b || is_committed after place) one ∙ ap (λ b. is_eliminated history place || b) other

  pub asked-issue : (place : ℕ) → is_issued (history ++ Issue desk asks plus minus ∷ []) place ≡ (is_issued history place || (asks == place))
  asked-issue place =
      ap (λ (asked : List ℕ). list_any (λ a. a == place) asked) (issued-push history (Issue desk asks plus minus))
      ∙ list_any-append (λ a. a == place) (issued history) (asks ∷ []) ∙ ap (λ b. is_issued history place || b) (or_nothing (asks == place))
