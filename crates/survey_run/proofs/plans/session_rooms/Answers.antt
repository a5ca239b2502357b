use Rattle.std.proofs.Common.{◌≡◌, ◌+◌, Some, refl, rules, length, take, slice_get}
use Rattle.std.proofs.lemmas.Option.{slice_get_read}
use Rattle.survey_run.specs.Desks.{HasSessionRoom}
use Rattle.survey_run.proofs.EachLemmas.{all_zip_push, take_one_more}
use Rattle.survey_run.proofs.plans.session_rooms.Goals as goal

pub loop-session-preserved : goal.loop-session-preserved
loop-session-preserved c =
    let inv = c.loop-session.invariant in
    let sessions = c.args.sessions.now in
    let k = c.loop-session.session-index in
    let session = c.session-item.result in
    let at : slice_get sessions k ≡ Some session = slice_get_read sessions (length sessions) k session refl c.loop-session-test.true c.session-item.is in
    record {
      rooms = rw (take_one_more sessions k (k + 1) session refl at, c.push_reserved.ensures.items)
          (all_zip_push (HasSessionRoom c.args.respondent c.args.desk) (take k sessions) c.loop-session.rooms.items session c.in_ok-session_room.field-0 inv.rooms c.in_ok-session_room.ensures);
      count = search rules;
      capacity = search rules;
    }
