-- What the least-index rule adds to the laws of replies.
use Rattle.std.specs.Prelude.{◌⊎◌, ◌↔◌, ℕ, List}
use Rattle.criteria_model.specs.declared.pairs.Pair.{Pair}
use Rattle.criteria_model.specs.declared.pairs.Answer.{Answer}
use Rattle.criteria_model.specs.declared.pairs.Side.{Side}
use Rattle.criteria_model.specs.Alternatives.{IsAlternative}
use Rattle.criteria_model.specs.Answers.{IsRanked, IsOpen}
use Rattle.pair_enumeration.specs.Listed.{Listed, IsListed}
use Rattle.pair_enumeration.specs.Places.{NeedsQuestion}
use Rattle.survey_core.specs.declared.events.Event.{Event}
use Rattle.survey_core.specs.Legal.{IsLegal}
use Rattle.survey_replies.specs.declared.replies.NextReply.{NextReply}
use Rattle.survey_replies.specs.declared.replies.NextReply.TheVariants.{Complete}
use Rattle.survey_replies.specs.declared.replies.ValuesReply.{ValuesReply}
use Rattle.survey_replies.specs.declared.replies.ValuesReply.TheVariants.{Values}
use Rattle.survey_replies.specs.Requests.{Request}
use Rattle.survey_replies.specs.Outcomes.{Outcome}
use Rattle.survey_replies.specs.Interview.{Interview, interview}
use Rattle.survey_replies.specs.ReplyLaw.{IsNextReply, IsValuesReply, IsReplyTo}

-- the answers rank the pair, or leave it open
abbrev pub IsDecided : List ℕ → List Answer → Pair → Type 0
IsDecided levels answers pair = ((side : Side) × IsRanked levels answers pair side) ⊎ IsOpen levels answers pair

-- they always do one of these
abbrev pub EachIsDecided : Type 0
EachIsDecided = (levels : List ℕ) (answers : List Answer) (pair : Pair) → IsDecided levels answers pair

-- so each request has a reply: one of the cases always holds
abbrev pub EachHasReply : Type 0
EachHasReply =
    (listed : Listed) (history : List Event) (request : Request) → IsListed listed → IsLegal listed history
    → (reply : Outcome) × IsReplyTo listed (interview listed history) request reply

-- the answers rank every two undominated alternatives of a degree within the limit
abbrev pub RankEveryPair : Listed → List Answer → Type 0
RankEveryPair listed answers =
    (a b : List ℕ) → IsAlternative listed.criteria.levels a → IsAlternative listed.criteria.levels b → NeedsQuestion listed.criteria a b
    → (side : Side) × IsRanked listed.criteria.levels answers (record { left = a; right = b }) side

abbrev pub IsComplete : NextReply → Type 0
IsComplete (Complete at) = Unit {0}
IsComplete _ = ⊥

-- the reply to `next` is Complete exactly where they do
abbrev pub CompleteExactly : Type 0
CompleteExactly =
    (listed : Listed) (now : Interview) (reply : NextReply) → IsListed listed → IsNextReply listed now reply
    → IsComplete reply ↔ RankEveryPair listed now.answers

abbrev pub HasValues : ValuesReply → Type 0
HasValues (Values at vector) = Unit {0}
HasValues _ = ⊥

-- and the reply to `values` has values exactly there
abbrev pub ValuesExactly : Type 0
ValuesExactly =
    (listed : Listed) (now : Interview) (reply : ValuesReply) → IsListed listed → IsValuesReply listed now reply
    → HasValues reply ↔ RankEveryPair listed now.answers
