-- Calls of a respondent: what the journal and the respondent's own places in it have to do with the replies. Places in the journal
-- count from 0: the event at a place comes after as many others.
use Rattle.std.specs.Prelude.{◌≡◌, ℕ, ◌+◌, ◌-◌, ◌<◌, ◌≤◌, ◌==◌, List, [], ◌∷◌, ◌++◌, length, take, slice_get, slice_range, count_by, Some, All, AllPairs, IsSomeAnd}
use Rattle.std.specs.List.{flat_map, range_with_len}
use mathlib.Core.List.{IsPrefix}
use Rattle.pair_enumeration.specs.Listed.{Listed}
use Rattle.survey_core.specs.declared.events.Event.{Event}
use Rattle.survey_core.specs.declared.events.Event.TheVariants.{Eliminate}
use Rattle.survey_core.specs.Histories.{issued, place_of}
use Rattle.survey_replies.specs.Requests.{Request}
use Rattle.survey_replies.specs.Requests as request
use Rattle.survey_replies.specs.Outcomes.{Outcome, Exchange, at_of}
use Rattle.survey_replies.specs.Interview.{interview}
use Rattle.survey_replies.specs.ReplyLaw.{IsReplyTo}
use Rattle.survey_replies.specs.Certificates.{Carries}
use Rattle.survey_replies.specs.Records.{Records, AreRankedByEvents, recorded}

-- the journal on which the reply was made
abbrev pub read_by : List Event → Outcome → List Event
read_by journal reply = take (at_of reply) journal

-- the length of the journal after the last turn
abbrev pub end_of : List Event → Outcome → ℕ
end_of journal reply = at_of reply + recorded (read_by journal reply) reply

-- the places of the events of the last turn
abbrev pub places_of : List Event → Outcome → List ℕ
places_of journal reply = range_with_len (at_of reply) (recorded (read_by journal reply) reply)

-- the reply to a desk's request, in a journal that has its last turn
pub record IsReplyIn (listed : Listed) (desk : ℕ) (journal : List Event) (request : Request) (reply : Outcome) : Type 0 where
  pub within : end_of journal reply ≤ length journal
  pub by_law : IsReplyTo listed (interview listed (read_by journal reply)) request reply
  pub carried : Carries listed (interview listed (read_by journal reply)) reply
  pub ranked : AreRankedByEvents listed (read_by journal reply) reply
  pub appended : Records desk (read_by journal reply) request reply (slice_range journal (at_of reply) (end_of journal reply))

-- the journal as a respondent has seen it, and the places that are its own, counted from 0: `event` takes the place plus 1
pub record Seen : Type 0 where
  pub journal : List Event
  pub own : List ℕ

-- nothing seen
abbrev pub unseen : Seen
unseen = record { journal = []; own = [] }

-- an Eliminate of the worker
abbrev pub IsEliminateOf : ℕ → Event → Type 0
IsEliminateOf worker (Eliminate eliminator place verdict combination) = eliminator ≡ worker
IsEliminateOf worker _ = ⊥

-- at the place of the journal is one
abbrev pub HasEliminateOf : ℕ → List Event → ℕ → Type 0
HasEliminateOf worker journal place = IsSomeAnd (slice_get journal place) (IsEliminateOf worker)

-- the class at a place may be eliminated for the request, before its reply is made: any class for `next` and `values`, that of
-- the question for `answer`, none else
abbrev pub MayEliminateFor : List ℕ → Request → ℕ → Type 0
MayEliminateFor asked request.next place = Unit {0}
MayEliminateFor asked request.values place = Unit {0}
MayEliminateFor asked (request.answer question side) place = place_of asked question ≡ Some place
MayEliminateFor asked _ place = ⊥

-- an Eliminate that a session appends for the request
abbrev pub IsEliminateFor : List ℕ → Request → Event → Type 0
IsEliminateFor asked request (Eliminate worker place verdict combination) = (worker ≡ 0) × MayEliminateFor asked request place
IsEliminateFor asked request _ = ⊥

-- at the place of the journal is one
abbrev pub HasEliminateFor : List Event → Request → ℕ → Type 0
HasEliminateFor journal request place = IsSomeAnd (slice_get journal place) (IsEliminateFor (issued journal) request)

-- one call of a respondent: what it had seen before it and what after it
pub record IsCall (listed : Listed) (desk : ℕ) (before after : Seen) (request : Request) (reply : Outcome) : Type 0 where
  pub replied : IsReplyIn listed desk after.journal request reply
  pub longer : IsPrefix before.journal after.journal
  pub later : length before.journal ≤ at_of reply
  pub ends : length after.journal ≡ end_of after.journal reply
  -- the places of the Eliminates that the call appended before its last turn, in rising order
  pub eliminated : List ℕ
  pub eliminations : All (λ place. (length before.journal ≤ place) × (place < at_of reply) × HasEliminateFor after.journal request place) eliminated
  pub once : AllPairs (λ one other. one < other) eliminated
  pub own : after.own ≡ before.own ++ eliminated ++ places_of after.journal reply

-- eliminations for a request, before its reply: the journal seen grows, and the places of these Eliminates become own
pub record Prepares (request : Request) (before after : Seen) : Type 0 where
  pub longer : IsPrefix before.journal after.journal
  pub eliminated : List ℕ
  pub eliminations : All (λ place. (length before.journal ≤ place) × (place < length after.journal) × HasEliminateFor after.journal request place) eliminated
  pub once : AllPairs (λ one other. one < other) eliminated
  pub own : after.own ≡ before.own ++ eliminated

-- a reply made in one turn, on the journal that the turn found, to which it appends
pub record RepliesInTurn (listed : Listed) (desk : ℕ) (found after : List Event) (request : Request) (reply : Outcome) : Type 0 where
  pub at : at_of reply ≡ length found
  pub by_law : IsReplyTo listed (interview listed found) request reply
  pub carried : Carries listed (interview listed found) reply
  pub ranked : AreRankedByEvents listed found reply
  pub events : List Event
  pub appended : Records desk found request reply events
  pub journal : after ≡ found ++ events

-- one turn of a respondent: the journal that it found begins with the one seen, and what it appended is own
pub record TakesTurn (before after : Seen) (found : List Event) : Type 0 where
  pub later : IsPrefix before.journal found
  pub longer : IsPrefix found after.journal
  pub own : after.own ≡ before.own ++ range_with_len (length found) (length after.journal - length found)

-- the journal seen may have grown
pub record Watches (before after : Seen) : Type 0 where
  pub longer : IsPrefix before.journal after.journal
  pub own : after.own ≡ before.own

-- calls one after another; between them the journal seen may grow
abbrev pub Conversation : Listed → ℕ → Seen → Seen → List Exchange → Type 0
Conversation listed desk before after [] = Watches before after
Conversation listed desk before after (exchange ∷ exchanges) =
    (middle : Seen) × IsCall listed desk before middle exchange.request exchange.reply × Conversation listed desk middle after exchanges

-- the places of the events that the replies' last turns appended
abbrev pub reply_places : List Event → List Exchange → List ℕ
reply_places journal exchanges = flat_map (λ exchange. places_of journal exchange.reply) exchanges

-- how often the place stands in the list
abbrev pub occurrences : ℕ → List ℕ → ℕ
occurrences place places = count_by (λ other. other == place) places
