-- What an event's line says is said of one event.
use Rattle.std.proofs.Common.{◌≡◌, ℕ, ◌-◌, List, refl, sym, ap, ◌∙◌, arith, Some, slice_get}
use Rattle.criteria_model.specs.declared.pairs.Pair.{Pair}
use Rattle.criteria_model.specs.Classes.{IsClass}
use Rattle.pair_enumeration.specs.Listed.{Listed, IsListed}
use Rattle.pair_enumeration.specs.Places.{class_at}
use Rattle.pair_enumeration.proofs.SearchLemmas.{stands_once, stands_contains}
use Rattle.survey_core.specs.declared.events.Event.{Event}
use Rattle.survey_core.specs.declared.events.Event.TheVariants as events
use Rattle.survey_core.specs.Legal.{IsPlace, MayFollow}
use Rattle.survey_core.proofs.ListSteps.{slice_get_inside}
use Rattle.row_laws.proofs.ItemLemmas.{item_of}
use Rattle.result_file.specs.declared.eliminations.Elimination.{Elimination}
use Rattle.result_file.specs.Events.{pair_at_place, as_entry, NamesClass}
use Rattle.result_file.specs.RightEvents.{NamesNoClass}

-- ---- classes by their places

-- at the place of a class stands the pair that is read there
pub stands_there : (listed : Listed) (place : ℕ) → IsPlace listed place → class_at listed.classes place ≡ Some (pair_at_place listed.classes place)
stands_there listed place is_place =
    let found : (pair : Pair) × (slice_get listed.classes (place - 1) ≡ Some pair) =
    slice_get_inside listed.classes (place - 1) (omega (arith, is_place.0, is_place.1)) in
    let at : class_at listed.classes place ≡ Some found.0 = item_of listed.classes place found.0 is_place.0 found.1 in
    let read : pair_at_place listed.classes place ≡ found.0 = rw at refl in
    at ∙ ap Some (sym read)

pub is_class_there : (listed : Listed) (place : ℕ) → IsListed listed → IsPlace listed place → IsClass listed.criteria (pair_at_place listed.classes place)
is_class_there listed place list is_place =
    (list.list.members (pair_at_place listed.classes place)).0 (stands_contains listed.classes place (pair_at_place listed.classes place) (stands_there listed place is_place))

place_once : (listed : Listed) (one other : ℕ) → IsListed listed → IsPlace listed one → IsPlace listed other
    → pair_at_place listed.classes one ≡ pair_at_place listed.classes other → one ≡ other
place_once listed one other list h k same =
    stands_once listed.classes one other (pair_at_place listed.classes other) list.list.ordered
    (stands_there listed one h ∙ ap Some same) (stands_there listed other k)

-- an entry that stands for an event of a class names one
pub names_a_class : (listed : Listed) (event : Event) → IsListed listed → NamesClass listed event → ¬ NamesNoClass listed.criteria (as_entry listed.classes event)
names_a_class listed (events.Eliminate worker place verdict combination) list named none = none (is_class_there listed place list named)
names_a_class listed (events.Issue desk place plus minus) list named none = none (is_class_there listed place list named)
names_a_class listed (events.Commit desk question side plus minus point) list named none = none
names_a_class listed (events.Close desk question) list named none = none
names_a_class listed (events.Withdraw desk answer) list named none = none

-- ---- events

-- an event that may follow names its class
pub names_class : (listed : Listed) (history : List Event) (event : Event) → MayFollow listed history event → NamesClass listed event
names_class listed history (events.Eliminate worker place verdict combination) may = may.0
names_class listed history (events.Issue desk place plus minus) may = may.0
names_class listed history (events.Commit desk question side plus minus point) may = tt
names_class listed history (events.Close desk question) may = tt
names_class listed history (events.Withdraw desk answer) may = tt

pub event_once : (listed : Listed) (one other : Event) → IsListed listed → NamesClass listed one → NamesClass listed other
    → as_entry listed.classes one ≡ as_entry listed.classes other → one ≡ other
event_once listed (events.Eliminate w p v c) (events.Eliminate x q u d) list h k same =
    let e : Elimination = record { worker = w; pair = pair_at_place listed.classes p; verdict = v; combination = c } in
    let f : Elimination = record { worker = x; pair = pair_at_place listed.classes q; verdict = u; combination = d } in
    let whole : e ≡ f = cc in
    let workers : w ≡ x = ap (λ (z : Elimination). z.worker) whole in
    let places : p ≡ q = place_once listed p q list h k (ap (λ (z : Elimination). z.pair) whole) in
    let verdicts : v ≡ u = ap (λ (z : Elimination). z.verdict) whole in
    let combinations : c ≡ d = ap (λ (z : Elimination). z.combination) whole in
    cc
event_once listed (events.Eliminate w p v c) (events.Issue desk q plus minus) list h k same = absurd cc
event_once listed (events.Eliminate w p v c) (events.Commit desk question side plus minus point) list h k same = absurd cc
event_once listed (events.Eliminate w p v c) (events.Close desk question) list h k same = absurd cc
event_once listed (events.Eliminate w p v c) (events.Withdraw desk answer) list h k same = absurd cc
event_once listed (events.Issue desk p plus minus) (events.Issue other_desk q other_plus other_minus) list h k same =
    let pairs : pair_at_place listed.classes p ≡ pair_at_place listed.classes q = cc in
    let places : p ≡ q = place_once listed p q list h k pairs in
    cc
event_once listed (events.Issue desk p plus minus) (events.Eliminate w q v c) list h k same = absurd cc
event_once listed (events.Issue desk p plus minus) (events.Commit other_desk question side other_plus other_minus point) list h k same = absurd cc
event_once listed (events.Issue desk p plus minus) (events.Close other_desk question) list h k same = absurd cc
event_once listed (events.Issue desk p plus minus) (events.Withdraw other_desk answer) list h k same = absurd cc
event_once listed (events.Commit desk question side plus minus point) (events.Commit other_desk other_question other_side other_plus other_minus other_point) list h k same = cc
event_once listed (events.Commit desk question side plus minus point) (events.Eliminate w q v c) list h k same = absurd cc
event_once listed (events.Commit desk question side plus minus point) (events.Issue other_desk q other_plus other_minus) list h k same = absurd cc
event_once listed (events.Commit desk question side plus minus point) (events.Close other_desk other_question) list h k same = absurd cc
event_once listed (events.Commit desk question side plus minus point) (events.Withdraw other_desk answer) list h k same = absurd cc
event_once listed (events.Close desk question) (events.Close other_desk other_question) list h k same = cc
event_once listed (events.Close desk question) (events.Eliminate w q v c) list h k same = absurd cc
event_once listed (events.Close desk question) (events.Issue other_desk q plus minus) list h k same = absurd cc
event_once listed (events.Close desk question) (events.Commit other_desk other_question side plus minus point) list h k same = absurd cc
event_once listed (events.Close desk question) (events.Withdraw other_desk answer) list h k same = absurd cc
event_once listed (events.Withdraw desk answer) (events.Withdraw other_desk other_answer) list h k same = cc
event_once listed (events.Withdraw desk answer) (events.Eliminate w q v c) list h k same = absurd cc
event_once listed (events.Withdraw desk answer) (events.Issue other_desk q plus minus) list h k same = absurd cc
event_once listed (events.Withdraw desk answer) (events.Commit other_desk question side plus minus point) list h k same = absurd cc
event_once listed (events.Withdraw desk answer) (events.Close other_desk question) list h k same = absurd cc
