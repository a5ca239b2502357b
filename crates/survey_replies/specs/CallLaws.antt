-- What conversations come to.
use Rattle.std.specs.Prelude.{◌≡◌, ℕ, ◌+◌, ◌<◌, ◌≤◌, List, [], ◌∷◌, ◌++◌, length, slice_get, Some, All, AllPairs}
use mathlib.Core.List.{IsPrefix}
use Rattle.pair_enumeration.specs.Listed.{Listed}
use Rattle.survey_core.specs.declared.events.Event.{Event}
use Rattle.survey_core.specs.Histories.{issued}
use Rattle.survey_replies.specs.Requests.{Request}
use Rattle.survey_replies.specs.Outcomes.{Outcome, Exchange, at_of}
use Rattle.survey_replies.specs.Calls.{end_of, IsReplyIn, Seen, IsEliminateOf, HasEliminateOf, IsEliminateFor, IsCall, Prepares, TakesTurn, Conversation, reply_places, occurrences, RepliesInTurn}

-- a reply is the right one in every longer journal
abbrev pub ReplyStays : Type 0
ReplyStays =
    (listed : Listed) (desk : ℕ) (journal longer : List Event) (request : Request) (reply : Outcome)
    → IsPrefix journal longer → IsReplyIn listed desk journal request reply → IsReplyIn listed desk longer request reply

-- a call is eliminations and then the turn that replies
abbrev pub CallIsMade : Type 0
CallIsMade =
    (listed : Listed) (desk : ℕ) (before middle after : Seen) (found : List Event) (request : Request) (reply : Outcome)
    → Prepares request before middle → TakesTurn middle after found → RepliesInTurn listed desk found after.journal request reply
    → IsCall listed desk before after request reply

-- a turn that appends an Eliminate for the request is such an elimination
abbrev pub EliminationPrepares : Type 0
EliminationPrepares =
    (request : Request) (before after : Seen) (found : List Event) (event : Event) → TakesTurn before after found
    → IsEliminateFor (issued found) request event → after.journal ≡ found ++ event ∷ [] → Prepares request before after

-- so is a turn that appends nothing
abbrev pub NothingPrepares : Type 0
NothingPrepares =
    (request : Request) (before after : Seen) (found : List Event) → TakesTurn before after found → after.journal ≡ found
    → Prepares request before after

-- eliminations after eliminations are eliminations
abbrev pub PreparationsJoin : Type 0
PreparationsJoin =
    (request : Request) (before middle after : Seen) → Prepares request before middle → Prepares request middle after
    → Prepares request before after

-- two conversations, one after the other, are one
abbrev pub ConversationsJoin : Type 0
ConversationsJoin =
    (listed : Listed) (desk : ℕ) (before middle after : Seen) (exchanges more : List Exchange)
    → Conversation listed desk before middle exchanges → Conversation listed desk middle after more
    → Conversation listed desk before after (exchanges ++ more)

-- each reply of a conversation is the right one in every journal that begins with the one seen
abbrev pub RepliesStand : Type 0
RepliesStand =
    (listed : Listed) (desk : ℕ) (before after : Seen) (exchanges : List Exchange) (journal : List Event)
    → Conversation listed desk before after exchanges → IsPrefix after.journal journal
    → All (λ exchange. IsReplyIn listed desk journal exchange.request exchange.reply) exchanges

-- a desk reads what it wrote: no reply is made before the last turn of an earlier one
abbrev pub NoPlaceFalls : Type 0
NoPlaceFalls =
    (listed : Listed) (desk : ℕ) (before after : Seen) (exchanges : List Exchange) → Conversation listed desk before after exchanges
    → AllPairs (λ one other. end_of after.journal one.reply ≤ at_of other.reply) exchanges

-- what a conversation made stands from its start on: each reply, and each place that became own
abbrev pub PlacesFromStart : Type 0
PlacesFromStart =
    (listed : Listed) (desk : ℕ) (before after : Seen) (exchanges : List Exchange) → Conversation listed desk before after exchanges
    → All (λ exchange. length before.journal ≤ at_of exchange.reply) exchanges
    × ((place : ℕ) → occurrences place before.own < occurrences place after.own
    → (length before.journal ≤ place) × (place < length after.journal))

-- the event is no Eliminate
abbrev pub IsNoEliminate : Event → Type 0
IsNoEliminate event = (worker : ℕ) → ¬ IsEliminateOf worker event

-- an event that is no Eliminate is a conversation's own as often as it stands in the last turn of one of its replies
abbrev pub OwnAreOfReplies : Type 0
OwnAreOfReplies =
    (listed : Listed) (desk : ℕ) (before after : Seen) (exchanges : List Exchange) (journal : List Event) (place : ℕ) (event : Event)
    → Conversation listed desk before after exchanges → IsPrefix after.journal journal
    → slice_get journal place ≡ Some event → IsNoEliminate event
    → occurrences place after.own ≡ occurrences place before.own + occurrences place (reply_places journal exchanges)

-- an Eliminate that a conversation appended names worker 0
abbrev pub OwnEliminatesAreDesks : Type 0
OwnEliminatesAreDesks =
    (listed : Listed) (desk : ℕ) (before after : Seen) (exchanges : List Exchange) (journal : List Event) (place worker : ℕ)
    → Conversation listed desk before after exchanges → IsPrefix after.journal journal
    → HasEliminateOf worker journal place → occurrences place before.own < occurrences place after.own → worker ≡ 0
