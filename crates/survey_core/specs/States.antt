-- What became of a question.
use Rattle.std.specs.Prelude.{◌≡◌, ◌⊎◌, ℕ, ◌<◌, length, List, Some}
use Rattle.pair_enumeration.specs.Listed.{Listed}
use Rattle.survey_core.specs.declared.events.Event.{Event}
use Rattle.survey_core.specs.declared.questions.QuestionState.{QuestionState}
use Rattle.survey_core.specs.declared.questions.QuestionState.TheVariants.{Never, Live, Gone}
use Rattle.survey_core.specs.Histories.{issued, place_of, IsOpenQuestion}
use Rattle.survey_core.specs.Legal.{IsPlace}

-- the question was issued, for the class at this place
abbrev pub Asks : Listed → List Event → ℕ → ℕ → Type 0
Asks listed history question place = (place_of (issued history) question ≡ Some place) × IsPlace listed place

-- a question was never issued, is open, or has ended
abbrev pub HasState : Listed → List Event → ℕ → QuestionState → Type 0
HasState listed history question Never = (question ≡ 0) ⊎ (length (issued history) < question)
HasState listed history question (Live place) = Asks listed history question place × IsOpenQuestion history question
HasState listed history question (Gone place) = Asks listed history question place × (¬ IsOpenQuestion history question)
