-- What a single event does.
use Rattle.std.specs.Prelude.{ℕ, Bool, true, false, ◌==◌, Option, Some, None}
use Rattle.std.specs.List.{list_any}
use Rattle.survey_core.specs.declared.events.Event.{Event}
use Rattle.survey_core.specs.declared.events.Event.TheVariants.{Eliminate, Issue, Commit, Close, Withdraw}

-- an Eliminate of the class at this place
abbrev pub eliminates : ℕ → Event → Bool
eliminates place (Eliminate worker eliminated verdict combination) = eliminated == place
eliminates place _ = false

-- an Eliminate that cites the answer
abbrev pub cites : ℕ → Event → Bool
cites answer (Eliminate worker place verdict combination) = list_any (λ cite. cite.answer == answer) combination.answers
cites answer _ = false

-- the place of the class that an Issue asks
abbrev pub issued_place : Event → Option ℕ
issued_place (Issue desk place plus minus) = Some place
issued_place _ = None

-- a Commit
abbrev pub is_commit : Event → Bool
is_commit (Commit desk question side plus minus point) = true
is_commit _ = false

-- a Commit of the question
abbrev pub commits : ℕ → Event → Bool
commits question (Commit desk committed side plus minus point) = committed == question
commits question _ = false

-- a Close of the question
abbrev pub closes : ℕ → Event → Bool
closes question (Close desk closed) = closed == question
closes question _ = false

-- a Withdraw
abbrev pub is_withdraw : Event → Bool
is_withdraw (Withdraw desk answer) = true
is_withdraw _ = false
