use Rattle.std.proofs.Common.{◌≤◌, length}
use Rattle.std.specs.Prelude.{vec_len, vec_capacity}
use Rattle.survey_hall.proofs.serving.start_eliminators.Given as goal

abbrev pub invariant-loop-place : goal.invariant-loop-place
invariant-loop-place g l = (vec_len l.working ≤ l.place) × (length l.starts ≤ vec_capacity l.working)
