-- What came of each session of a script, by what each desk said.
use Rattle.std.specs.Prelude.{ℕ, ◌+◌, List, [], ◌∷◌, Option, Some, None, slice_get}
use Rattle.std.specs.Option.{option_and_then}
use Rattle.row_laws.specs.Items.{item_at}
use Rattle.survey_script.specs.ScriptViews.{ScriptSessionView}
use Rattle.survey_run.specs.Desks.{DeskSession}
use Rattle.survey_run.specs.Ends.{DeskPart}
use Rattle.survey_run.specs.Sessions.{MessageRun, SessionRun}

-- the part of a desk of a respondent
abbrev pub part_at : List (List DeskPart) → ℕ → ℕ → Option DeskPart
part_at parts respondent desk = option_and_then (λ (desks : List DeskPart). item_at desks desk) (item_at parts respondent)

abbrev pub messages_in : Option DeskSession → List MessageRun
messages_in None = []
messages_in (Some one) = one.messages

-- what came of the session at a place of the script, counted from 0
abbrev pub run_at : List (List DeskPart) → ScriptSessionView → ℕ → SessionRun
run_at parts session place = record {
  respondent = session.respondent;
  desk = session.desk;
  messages = messages_in (option_and_then (λ (part : DeskPart). slice_get part.said place) (part_at parts session.respondent session.desk));
}

-- the same of the sessions from a place on
abbrev pub runs_from : List (List DeskPart) → ℕ → List ScriptSessionView → List SessionRun
runs_from parts place [] = []
runs_from parts place (session ∷ sessions) = run_at parts session place ∷ runs_from parts (place + 1) sessions
