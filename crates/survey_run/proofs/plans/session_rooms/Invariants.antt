use Rattle.std.proofs.Common.{◌≡◌, ◌≤◌, length, take}
use Rattle.std.specs.Prelude.{vec_len, vec_capacity}
use Rattle.std.specs.List.{AllZip}
use Rattle.survey_run.specs.Desks.{HasSessionRoom}
use Rattle.survey_run.proofs.plans.session_rooms.Given as goal

abbrev pub invariant-loop-session : goal.invariant-loop-session
invariant-loop-session l = record {
  rooms : AllZip (HasSessionRoom l.respondent l.desk) (take l.session-index l.sessions) l.rooms.items;
  count : vec_len l.rooms ≡ l.session-index;
  capacity : length l.sessions ≤ vec_capacity l.rooms;
}
