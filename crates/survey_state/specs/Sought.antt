-- The class on which a reply rests.
use Rattle.std.specs.Prelude.{◌⊎◌, ℕ, ◌+◌, List, length}
use Rattle.pair_enumeration.specs.Listed.{Listed}
use Rattle.survey_core.specs.declared.events.Event.{Event}
use Rattle.survey_core.specs.Histories.{IsOpenQuestion}
use Rattle.survey_core.specs.Legal.{AreEarlierAsked}
use Rattle.survey_core.specs.States.{Asks}
use Rattle.survey_replies.specs.Requests.{Request}
use Rattle.survey_replies.specs.Requests as request
use Rattle.survey_state.specs.States.{IsFirstUnranked, IsFirstDue}

-- of `next`: the first that no event ranks and that was never asked, or the first unranked one where each is ranked or was asked;
-- of `values`: the first unranked one; of `answer`: that of the question, while this is open
abbrev pub IsSought : Listed → List Event → Request → ℕ → Type 0
IsSought listed journal request.next place =
    IsFirstDue listed journal place ⊎ (AreEarlierAsked journal (length listed.classes + 1) × IsFirstUnranked listed journal place)
IsSought listed journal request.values place = IsFirstUnranked listed journal place
IsSought listed journal (request.answer question side) place = Asks listed journal question place × IsOpenQuestion journal question
IsSought listed journal _ place = ⊥
