use Rattle.std.proofs.Common.{◌≡◌, ◌+◌, ◌≤◌, length, take, drop}
use Rattle.std.specs.Prelude.{vec_len, vec_capacity}
use Rattle.std.specs.List.{AllZip}
use Rattle.std.specs.Vec.Iter.{into_iter_items, into_iter_len}
use Rattle.survey_run.specs.Desks.{HasSessionRoom, SaysAll, lists_of}
use Rattle.survey_run.proofs.speaking.speak_all.Given as goal

abbrev pub invariant-loop-room : goal.invariant-loop-room
invariant-loop-room g l = let rest = l.room-iterator in let e = g.R.Events in record {
  says : SaysAll (e.listed (e.about l.fn.respondent)) l.number l.desk (e.seen l.fn.respondent) (e.seen l.respondent) (take (vec_len l.told) l.sessions) (lists_of l.told);
  rooms : AllZip (HasSessionRoom l.number l.desk) (drop (vec_len l.told) l.sessions) (into_iter_items rest);
  count : vec_len l.told + into_iter_len rest ≡ length l.sessions;
  capacity : length l.sessions ≤ vec_capacity l.told;
  same : e.about l.respondent ≡ e.about l.fn.respondent;
}
