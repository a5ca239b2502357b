-- What the lines of a result say of events.
use Rattle.std.specs.Prelude.{◌≡◌, ℕ, List, []}
use Rattle.std.specs.Option.{option_map_or}
use Rattle.criteria_model.specs.declared.pairs.Pair.{Pair}
use Rattle.pair_enumeration.specs.Listed.{Listed}
use Rattle.survey_core.specs.declared.events.Event.{Event}
use Rattle.survey_core.specs.declared.events.Event.TheVariants as events
use Rattle.survey_core.specs.Histories.{class_at}
use Rattle.survey_core.specs.Legal.{IsPlace}
use Rattle.result_file.specs.declared.entries.Entry.{Entry}
use Rattle.result_file.specs.declared.entries.Entry.TheVariants.{Eliminate, Issue, Commit, Close, Withdraw}
use Rattle.result_file.specs.Texts.{entry_line}

-- the pair where there is none
abbrev pub no_pair : Pair
no_pair = record { left = []; right = [] }

-- the pair at a place of the class list; an event of a legal history never has another place
abbrev pub pair_at_place : List Pair → ℕ → Pair
pair_at_place classes place = option_map_or (λ pair. pair) (class_at classes place) no_pair

-- the pair of the class that an event names by its place: an Eliminate's or an Issue's
abbrev pub named_pair : List Pair → Event → Pair
named_pair classes (events.Eliminate worker place verdict combination) = pair_at_place classes place
named_pair classes (events.Issue desk place plus minus) = pair_at_place classes place
named_pair classes _ = no_pair

-- what the line of an event says, where this is the pair of its class
abbrev pub entry_on : Pair → Event → Entry
entry_on pair (events.Eliminate worker place verdict combination) =
    Eliminate (record { worker = worker; pair = pair; verdict = verdict; combination = combination })
entry_on pair (events.Issue desk place plus minus) = Issue desk pair plus minus
entry_on pair (events.Commit desk question side plus minus point) = Commit desk question side plus minus point
entry_on pair (events.Close desk question) = Close desk question
entry_on pair (events.Withdraw desk answer) = Withdraw desk answer

-- what the line of an event says: of its class the pair, in place of the place
abbrev pub as_entry : List Pair → Event → Entry
as_entry classes event = entry_on (named_pair classes event) event

-- the line of an event
abbrev pub event_line : List Pair → Event → List ℕ
event_line classes event = entry_line (as_entry classes event)

-- where an event names a class by a place, a class has the place
abbrev pub NamesClass : Listed → Event → Type 0
NamesClass listed (events.Eliminate worker place verdict combination) = IsPlace listed place
NamesClass listed (events.Issue desk place plus minus) = IsPlace listed place
NamesClass listed _ = Unit {0}

-- the entry stands for this event
pub record Tells (listed : Listed) (entry : Entry) (event : Event) : Type 0 where
  pub class : NamesClass listed event
  pub told : entry ≡ as_entry listed.classes event
