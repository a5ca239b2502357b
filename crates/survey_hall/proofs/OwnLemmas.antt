-- What a desk owns are places of the journal that it has seen.
use Rattle.std.proofs.Common.{◌≡◌, ℕ, ◌+◌, ◌<◌, ◌==◌, cond, List, [], ◌∷◌, length, map, inl, inr, refl, ap, arith}
use Rattle.std.proofs.lemmas.Bool.{cases_lt, eq-eqb}
use Rattle.std.proofs.lemmas.List.Sums.{sum_by-cons}
use Rattle.survey_core.proofs.ListSteps.{Each, Each-All, All-Each}
use Rattle.survey_replies.specs.Calls.{occurrences}
use Rattle.survey_replies.proofs.CallLemmas.{conversation_longer, prefix_length}
use Rattle.survey_replies.proofs.JournalLemmas.{places_from_start_lem, some_there}
use Rattle.pair_enumeration.specs.Listed.{Listed}
use Rattle.session_protocol.specs.declared.sessions.CountedEnd.{CountedEnd}
use Rattle.session_protocol.specs.Sessions.{IsCountedSession, SessionView, exchange_of}
use Rattle.survey_hall.specs.Visits.{OwnsSeenPlaces}

-- what holds of each number that occurs in a list holds of each element
each_that_occurs : (P : ℕ → Type 0) (places : List ℕ) → ((place : ℕ) → 0 < occurrences place places → P place) → Each P places
each_that_occurs P [] holds = tt
each_that_occurs P (first ∷ places) holds =
    let counts : (place : ℕ) → occurrences place (first ∷ places) ≡ cond (first == place) 1 0 + occurrences place places =
    λ place. sum_by-cons (λ x. cond (x == place) 1 0) first places in
    let once : ◌≡◌ {A = ℕ} (cond (first == first) 1 0) 1 = ap {B = ℕ} (λ b. cond b 1 0) (eq-eqb first first refl) in (
      holds first (omega (arith, counts first, once)),
      each_that_occurs P places (λ place more. holds place (omega (arith, counts place, more))),
    )

-- after a session as well
pub session_owns : (listed : Listed) (desk : ℕ) (before after : SessionView) (most : ℕ) (counted : CountedEnd)
    → IsCountedSession listed desk before after most counted → OwnsSeenPlaces before.seen → OwnsSeenPlaces after.seen
session_owns listed desk before after most counted h owned =
    let exchanges = map exchange_of h.session.exchanges in
    let conversation = h.session.answered in
    let longer = prefix_length before.seen.journal after.seen.journal (conversation_longer listed desk before.seen after.seen exchanges conversation) in
    let Within : ℕ → Type 0 = λ place. place < length after.seen.journal in
    Each-All Within after.seen.own (each_that_occurs Within after.seen.own (λ place there. elim (cases_lt (occurrences place before.seen.own) (occurrences place after.seen.own)) [
      | inl more ↦ ((places_from_start_lem listed desk before.seen after.seen exchanges conversation).1 place more).1
      | inr none ↦
          omega (
            arith,
            longer,
            some_there (λ other. other < length before.seen.journal) place before.seen.own
                (All-Each (λ other. other < length before.seen.journal) before.seen.own owned) (omega (arith, there, none)),
          )
    ]))
