-- The journal of a survey of one desk is its own.
use Rattle.std.proofs.Common.{◌≡◌, ℕ, zero, suc, ◌+◌, ◌-◌, List, [], ◌∷◌, ◌++◌, length, length-append, Option, Some, None, ap, sym, subst, ◌∙◌, arith, append-nil}
use Rattle.std.specs.List.{range_with_len}
use Rattle.std.proofs.lemmas.Option.{none-some, same_Some}
use mathlib.Core.List.{IsPrefix}
use Rattle.survey_core.specs.declared.events.Event.{Event}
use Rattle.survey_replies.specs.Calls.{Seen, TakesTurn}
use Rattle.survey_state.specs.States.{Surveyed}
use Rattle.survey_state.specs.Solos.{held_state, journal_out}

range_more : (from first rest all : ℕ) → all ≡ first + rest → range_with_len from all ≡ range_with_len from first ++ range_with_len (from + first) rest
range_more from zero rest all is =
    let same : all ≡ rest = omega (arith, is) in
    let start : from ≡ from + 0 = omega arith in
    ap (λ (n : ℕ). range_with_len from n) same ∙ ap (λ (n : ℕ). range_with_len n rest) start
range_more from (suc first) rest zero is = absurd (omega (arith, is))
range_more from (suc first) rest (suc all) is =
    let start : from + 1 + first ≡ from + suc first = omega arith in
    ap (λ (l : List ℕ). from ∷ l)
    (range_more (from + 1) first rest all (omega (arith, is)) ∙ ap (λ (n : ℕ). range_with_len (from + 1) first ++ range_with_len n rest) start)

-- all its places are one's own
abbrev pub all_own : List Event → Seen
all_own journal = record { journal = journal; own = range_with_len 0 (length journal) }

own_turn : (found after : List Event) → IsPrefix found after → TakesTurn (all_own found) (all_own after) found
own_turn found after (more, whole) =
    let len : length after ≡ length found + length more = ap (λ (l : List Event). length l) (sym whole) ∙ length-append found more in
    let start : 0 + length found ≡ length found = omega arith in
    record {
      later = ([], append-nil found);
      longer = (more, whole);
      own =
          range_more 0 (length found) (length after - length found) (length after) (omega (arith, len))
          ∙ ap (λ (n : ℕ). range_with_len 0 (length found) ++ range_with_len n (length after - length found)) start;
    }

pub held_turn : (held : Option Surveyed) (last : Surveyed) (after : List Event)
    → ((found : List Event) × (journal_out held last ≡ Some found) × IsPrefix found after)
    → (found : List Event) → journal_out held last ≡ Some found → TakesTurn (all_own (held_state held last).journal) (all_own after) found
held_turn (Some state) last after longer found out = absurd (none-some found out)
held_turn None last after longer found out =
    let same : last.journal ≡ found = same_Some last.journal found out in
    let front : IsPrefix last.journal after =
    subst (λ (l : List Event). IsPrefix l after) (same_Some longer.0 last.journal (sym longer.1)) longer.2 in
    subst (λ (l : List Event). TakesTurn (all_own last.journal) (all_own after) l) same (own_turn last.journal after front)

pub held_longer : (held : Option Surveyed) (last state : Surveyed) → held ≡ Some state → IsPrefix (held_state held last).journal state.journal
held_longer held last state is = ([], append-nil (held_state held last).journal ∙ ap (λ (h : Option Surveyed). (held_state h last).journal) is)
