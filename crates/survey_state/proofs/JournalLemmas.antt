-- What a `State` keeps, after one more event.
use Rattle.std.proofs.Common.{◌≡◌, ◌⊎◌, ℕ, ◌+◌, ◌-◌, ◌*◌, ◌≤◌, Bool, true, false, cond, IsTrue, inl, inr, List, [], ◌∷◌, ◌++◌, length, refl, ap, sym, subst, ◌∙◌, arith}
use Rattle.std.proofs.lemmas.List.Sums.{sum_by_push, count_by-le-length}
use Rattle.std.proofs.lemmas.Option.{none-some}
use Rattle.pair_enumeration.specs.Listed.{Listed, IsListed}
use Rattle.question_queue.specs.Pools.{Pooled, new_pool}
use Rattle.survey_core.specs.declared.events.Event.{Event}
use Rattle.survey_core.specs.declared.limits.TheConstants.{MAX_EVENTS}
use Rattle.survey_core.specs.Kinds.{is_withdraw}
use Rattle.survey_core.specs.Legal.{IsLegal, MayFollow}
use Rattle.survey_core.specs.Recorded.{Recorded}
use Rattle.survey_core.proofs.ShortLemmas.{legal_is_short_lem}
use Rattle.survey_core.specs.declared.points.AnswerPoint.{AnswerPoint}
use Rattle.survey_core.specs.Points.{points_after}
use Rattle.survey_state.specs.States.{HasRoom, room_for_withdrawal, changes_answers, version_of, KeepsPool, IsLastEvent, KeepsJournal}
use Rattle.survey_state.proofs.RoomLemmas.{three_a_class_follow_lem, room_next, some_room}
use Rattle.survey_core.proofs.PointLemmas.{points_next}
use Rattle.survey_state.proofs.PoolLemmas.{new_kept}

-- the number of changes stays far below the greatest number
pub few_changes : (listed : Listed) (history : List Event) → IsListed listed → IsLegal listed history → version_of history ≤ MAX_EVENTS
few_changes listed history model legal =
    omega (arith, count_by-le-length changes_answers history, legal_is_short_lem listed history model legal)

true_or_false : (b : Bool) → (b ≡ true) ⊎ (b ≡ false)
true_or_false true = inl refl
true_or_false false = inr refl

-- there is memory for the next event
pub room_now : (listed : Listed) (history : List Event) (event : Event) (spare : ℕ) → IsLegal listed (history ++ event ∷ []) → HasRoom listed history spare
    → (IsTrue (is_withdraw event) → room_for_withdrawal listed ≤ spare) → 1 ≤ spare
room_now listed history event spare legal room prepared = elim (true_or_false (is_withdraw event)) [
  | inl withdraws ↦ omega (arith, prepared withdraws)
  | inr stays ↦ some_room listed history event spare room stays legal
]

-- memory for three events a class is enough
three_each : (listed : Listed) (history : List Event) (spare : ℕ) → IsListed listed → 3 * length listed.classes ≤ spare → HasRoom listed history spare
three_each listed history spare model enough more legal none = omega (arith, three_a_class_follow_lem listed history more model legal none)

-- and then for all that may follow it
pub room_after : (listed : Listed) (history : List Event) (event : Event) (spare : ℕ) → IsListed listed → HasRoom listed history spare
    → (IsTrue (is_withdraw event) → room_for_withdrawal listed ≤ spare) → HasRoom listed (history ++ event ∷ []) (spare - 1)
room_after listed history event spare model room prepared = elim (true_or_false (is_withdraw event)) [
  | inl withdraws ↦ three_each listed (history ++ event ∷ []) (spare - 1) model (omega (arith, prepared withdraws))
  | inr stays ↦ room_next listed history event spare room stays
]

module _ (core new : Recorded) (journal : List Event) (points : List AnswerPoint) (pool : Pooled) (version room spare : ℕ) (event : Event)
    (kept : KeepsJournal core journal points pool version room spare) (listed_is : new.listed ≡ core.listed)
    (history_is : new.history ≡ core.history ++ event ∷ []) (legal : IsLegal new.listed new.history) where
  whole : new.history ≡ journal ++ event ∷ []
  whole = history_is ∙ ap (λ l. l ++ event ∷ []) kept.history

  -- the journal with the next event is legal, where the core's history is
  pub legal_next : IsLegal core.listed (journal ++ event ∷ [])
  legal_next = subst (λ (l : Listed). IsLegal l (journal ++ event ∷ [])) listed_is (subst (λ (h : List Event). IsLegal new.listed h) whole legal)

  pub last_event : MayFollow core.listed journal event → IsLastEvent new event pool
  last_event may = record {
    journal = journal;
    history = whole;
    legal = subst (λ (l : Listed). IsLegal l journal) (sym listed_is) kept.legal;
    allowed = subst (λ (l : Listed). MayFollow l journal event) (sym listed_is) may;
    kept = subst (λ (l : Listed). KeepsPool l journal pool) (sym listed_is) kept.pool_of;
  }

  pub keeps_next : (after : Pooled) → KeepsPool new.listed new.history after → (IsTrue (is_withdraw event) → room_for_withdrawal core.listed ≤ spare)
      → KeepsJournal new (journal ++ event ∷ []) (points_after points event) after (version + cond (changes_answers event) 1 0) room (spare - 1)
  keeps_next after pool_of prepared =
      let more : HasRoom core.listed (journal ++ event ∷ []) (spare - 1) = room_after core.listed journal event spare kept.model kept.room prepared in
      record {
        model = subst (λ (l : Listed). IsListed l) (sym listed_is) kept.model;
        legal = subst (λ (h : List Event). IsLegal new.listed h) whole legal;
        history = whole;
        points_of = ap (λ (p : List AnswerPoint). points_after p event) kept.points_of ∙ sym (points_next journal event);
        enough = subst (λ (l : Listed). length l.classes ≤ room) (sym listed_is) kept.enough;
        pool_of = subst (λ (h : List Event). KeepsPool new.listed h after) whole pool_of;
        changes = ap (λ n. n + cond (changes_answers event) 1 0) kept.changes ∙ sym (sum_by_push (λ e. cond (changes_answers e) 1 0) journal event);
        room = subst (λ (l : Listed). HasRoom l (journal ++ event ∷ []) (spare - 1)) (sym listed_is) more;
      }

-- with another pool, more memory, and the same events
pub keeps_with : {core : Recorded} {journal : List Event} {points : List AnswerPoint} {pool : Pooled} {version room spare : ℕ} (after : List Event) (new : Pooled) (more : ℕ)
    → KeepsJournal core journal points pool version room spare → after ≡ journal → KeepsPool core.listed journal new → spare ≤ more
    → KeepsJournal core after points new version room more
keeps_with {core} {journal} {points} {pool} {version} {room} {spare} after new more kept same pool_of longer =
    subst (λ (l : List Event). KeepsJournal core l points new version room more) (sym same)
    (record {
      model = kept.model;
      legal = kept.legal;
      history = kept.history;
      points_of = kept.points_of;
      enough = kept.enough;
      pool_of = pool_of;
      changes = kept.changes;
      room = λ others legal none. omega (arith, kept.room others legal none);
    })

nothing_legal : (listed : Listed) → IsLegal listed []
nothing_legal listed k event at = absurd (none-some event at)

-- at first
pub keeps_new : (core : Recorded) (journal : List Event) (points : List AnswerPoint) (pool : Pooled) (count room spare : ℕ) → IsListed core.listed → core.history ≡ []
    → journal ≡ [] → points ≡ [] → pool ≡ new_pool count → count ≡ length core.listed.classes → length core.listed.classes ≤ room → 3 * length core.listed.classes ≤ spare
    → KeepsJournal core journal points pool 0 room spare
keeps_new core journal points pool count room spare model empty no_events no_points unmarked size enough each =
    subst (λ (l : List Event). KeepsJournal core l points pool 0 room spare) (sym no_events)
    (subst (λ (p : List AnswerPoint). KeepsJournal core [] p pool 0 room spare) (sym no_points)
    (record {
      model = model;
      legal = nothing_legal core.listed;
      history = empty;
      points_of = refl;
      enough = enough;
      pool_of = subst (λ (p : Pooled). KeepsPool core.listed [] p) (sym unmarked) (new_kept core.listed count size);
      changes = refl;
      room = three_each core.listed [] spare model each;
    }))

pub keeps_as : {core : Recorded} {journal after : List Event} {points others : List AnswerPoint} {pool : Pooled} {version number room capacity spare left : ℕ}
    → KeepsJournal core journal points pool version room spare → after ≡ journal → others ≡ points → number ≡ version → capacity ≡ room → left ≡ spare
    → KeepsJournal core after others pool number capacity left
keeps_as {core} {journal} {after} {points} {others} {pool} {version} {number} {room} {capacity} {spare} {left} kept events same count most more =
    subst (λ (n : ℕ). KeepsJournal core after others pool number capacity n) (sym more)
    (subst (λ (n : ℕ). KeepsJournal core after others pool number n spare) (sym most)
    (subst (λ (n : ℕ). KeepsJournal core after others pool n room spare) (sym count)
    (subst (λ (p : List AnswerPoint). KeepsJournal core after p pool version room spare) (sym same)
    (subst (λ (l : List Event). KeepsJournal core l points pool version room spare) (sym events) kept))))
