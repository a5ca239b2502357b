-- What a seat keeps, before and after its turns.
use Rattle.std.proofs.Common.{◌≡◌, ◌⊎◌, inl, inr, max, ℕ, ◌≤◌, List, length, Option, Some, sym, subst, ap, ◌∙◌, arith}
use Rattle.std.proofs.lemmas.Option.{none-some, same_Some}
use mathlib.Core.List.{IsPrefix}
use Rattle.row_laws.specs.Items.{item_at}
use Rattle.row_laws.proofs.ItemLemmas.{item_at-append, item_inside}
use Rattle.pair_enumeration.specs.Listed.{Listed, IsListed}
use Rattle.survey_core.specs.declared.events.Event.{Event}
use Rattle.survey_core.specs.Legal.{IsLegal}
use Rattle.survey_replies.proofs.CallLemmas.{prefix_length}
use Rattle.turn_lock.specs.declared.rule.View.{View}
use Rattle.turn_lock.specs.declared.rule.Stage.TheVariants.{Outside}
use Rattle.shared_survey.specs.LockSeats.{KeepsSeat, stage_journal}

-- an event that was seen stands at the same place in a longer journal
pub item_shorter : (front journal : List Event) (place : ℕ) (event : Event) → IsPrefix front journal → 1 ≤ place → place ≤ length front
    → item_at journal place ≡ Some event → item_at front place ≡ Some event
item_shorter front journal place event (more, whole) low high at =
    let found : (one : Event) × (item_at front place ≡ Some one) = item_inside front place low high in
    let there : item_at journal place ≡ Some found.0 =
    ap (λ (l : List Event). item_at l place) (sym whole) ∙ item_at-append front more place found.0 found.1 in
    let same : event ≡ found.0 = same_Some event found.0 (sym at ∙ there) in
    found.1 ∙ ap (λ (e : Event). Some e) (sym same)

legal_of : (kind : Option Listed) (listed : Listed) (journal : List Event) → kind ≡ Some listed → IsListed listed → IsLegal listed journal
    → (other : Listed) → kind ≡ Some other → IsListed other × IsLegal other journal
legal_of kind listed journal is lists legal other same =
    let one : listed ≡ other = same_Some listed other (sym is ∙ same) in
    subst (λ (l : Listed). IsListed l × IsLegal l journal) one (lists, legal)

-- a seat keeps this while no turn is taken by it
pub keeps_outside : (count : ℕ) (knows : View Event Listed) (listed : Listed) → count ≡ length knows.front → knows.kind ≡ Some listed
    → IsListed listed → IsLegal listed knows.front → knows.stage ≡ Outside → KeepsSeat count knows
keeps_outside count knows listed counts kind lists legal outside = record {
  counts = counts;
  legal = legal_of knows.kind listed knows.front kind lists legal;
  begins = λ journal out. absurd (none-some journal (sym (ap stage_journal outside) ∙ out));
}

-- and while one is
pub keeps_inside : (count : ℕ) (knows : View Event Listed) (listed : Listed) (journal : List Event) → count ≡ length knows.front
    → knows.kind ≡ Some listed → IsListed listed → IsLegal listed knows.front → stage_journal knows.stage ≡ Some journal → IsPrefix knows.front journal
    → KeepsSeat count knows
keeps_inside count knows listed journal counts kind lists legal out prefix = record {
  counts = counts;
  legal = legal_of knows.kind listed knows.front kind lists legal;
  begins = λ other there. subst (λ (l : List Event). IsPrefix knows.front l) (same_Some journal other (sym out ∙ there)) prefix;
}

-- what one seat has seen is legal, so is the same journal
pub legal_along : (count : ℕ) (knows : View Event Listed) (listed : Listed) (front : List Event) → KeepsSeat count knows → knows.kind ≡ Some listed
    → front ≡ knows.front → IsListed listed × IsLegal listed front
legal_along count knows listed front keeps kind same =
    subst (λ (l : List Event). IsListed listed × IsLegal listed l) (sym same) (keeps.legal listed kind)

-- the longer of two journals, of which both are fronts
pub longer_length : (one other both : List Event) → IsPrefix one both → IsPrefix other both → ((both ≡ one) ⊎ (both ≡ other))
    → length both ≡ max (length one) (length other)
longer_length one other both first second either =
    let a : length one ≤ length both = prefix_length one both first in
    let b : length other ≤ length both = prefix_length other both second in
    elim either [ inl same ↦ omega (arith, ap (λ (l : List Event). length l) same) | inr same ↦ omega (arith, ap (λ (l : List Event). length l) same) ]

-- a seat outside that has seen as much as another keeps as much
pub keeps_along : (count : ℕ) (old new : View Event Listed) (listed : Listed) → KeepsSeat count old → old.kind ≡ Some listed → new.kind ≡ Some listed
    → new.front ≡ old.front → new.stage ≡ Outside → KeepsSeat count new
keeps_along count old new listed keeps was kind same outside =
    let legal : IsListed listed × IsLegal listed new.front = legal_along count old listed new.front keeps was same in
    keeps_outside count new listed (keeps.counts ∙ ap (λ (l : List Event). length l) (sym same)) kind legal.0 legal.1 outside

-- what is legal stays so under other names
pub legal_moved : (own listed : Listed) (journal front : List Event) → own ≡ listed → front ≡ journal → IsListed own → IsLegal own journal
    → IsListed listed × IsLegal listed front
legal_moved own listed journal front same moved lists legal =
    subst (λ (l : Listed). IsListed l × IsLegal l front) same (lists, subst (λ (j : List Event). IsLegal own j) (sym moved) legal)
