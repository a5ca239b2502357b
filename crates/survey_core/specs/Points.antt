-- The points of the answers that stand.
use Rattle.std.specs.Prelude.{ℕ, ◌-◌, List, [], ◌∷◌, ◌++◌, length, take, Option, Some, None}
use Rattle.std.specs.List.{filter_map}
use Rattle.survey_core.specs.declared.events.Event.{Event}
use Rattle.survey_core.specs.declared.events.Event.TheVariants.{Commit, Withdraw}
use Rattle.survey_core.specs.declared.points.AnswerPoint.{AnswerPoint}
use Rattle.survey_core.specs.Histories.{standing}

-- the point of a Commit, and its question
abbrev pub answer_point : Event → Option AnswerPoint
answer_point (Commit desk question side plus minus point) = Some (record { question = question; point = point })
answer_point _ = None

-- those of the standing Commits
abbrev pub standing_points : List Event → List AnswerPoint
standing_points history = filter_map answer_point (standing history)

-- the same, after one more event
abbrev pub points_after : List AnswerPoint → Event → List AnswerPoint
points_after points (Commit desk question side plus minus point) = points ++ record { question = question; point = point } ∷ []
points_after points (Withdraw desk answer) = take (length points - 1) points
points_after points _ = points
