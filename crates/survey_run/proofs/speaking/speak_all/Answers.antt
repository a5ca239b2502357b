use Rattle.std.proofs.Common.{◌≡◌, ◌∙◌, suc, refl, rules, arith, length}
use Rattle.std.specs.Prelude.{vec_len}
use Rattle.survey_core.proofs.ListSteps.{take_whole}
use Rattle.survey_run.specs.Desks.{HasSessionRoom}
use Rattle.survey_run.proofs.EachLemmas.{all_zip_at, all_zip_length}
use Rattle.survey_run.proofs.SayLemmas.{says_begun, says_more}
use Rattle.survey_run.proofs.speaking.speak_all.Goals as goal

pub loop-room-init : goal.loop-room-init
loop-room-init g c =
    let a = g.R.Events.about c.args.respondent.now in
    let zero : vec_len c.args.told ≡ 0 = search rules in
    record {
      says = says_begun (g.R.Events.listed a) c.args.number c.args.desk (g.R.Events.seen c.args.respondent.now) c.args.sessions.now c.args.told c.requires.told.0 zero;
      rooms = rw (zero, c.into_iter-room-iterator.ensures.into_iter_gives.0) c.requires.rooms;
      count =
          let long = all_zip_length (HasSessionRoom c.args.number c.args.desk) c.args.sessions.now c.args.rooms.items c.requires.rooms in
          let items : vec_len c.args.rooms ≡ length c.args.rooms.items = search rules in
          omega (arith, zero, long, items, c.into_iter-room-iterator.ensures.into_iter_gives.1);
      capacity = c.requires.told.1;
      same = refl;
    }

pub loop-room-preserved : goal.loop-room-preserved
loop-room-preserved g c =
    let a = g.R.Events.about c.args.respondent.now in
    let inv = c.loop-room.invariant in
    let told = c.loop-room.told in
    let new = c.push_reserved.new.self in
    let session = c.index-sessions-len.result in
    let front = all_zip_at (HasSessionRoom c.args.number c.args.desk) c.args.sessions.now (vec_len told) session c.in-Some.room _ (rw c.len.ensures at c.index-sessions-len.is)
    (rw c.in-Some.ensures.steps.0 at inv.rooms) in
    let longer : vec_len new ≡ suc (vec_len told) = search rules in
    record {
      says = says_more (g.R.Events.listed a) c.args.number c.args.desk (g.R.Events.seen c.args.respondent.now) (g.R.Events.seen c.loop-room.respondent)
          (g.R.Events.seen c.speak_in.new.respondent) c.args.sessions.now told new session c.in_ok-speak_in.field-0 c.push_reserved.ensures.items
          c.push_reserved.ensures.len front.0 inv.says (rw inv.same at c.in_ok-speak_in.ensures.said);
      rooms = rw longer front.2;
      count = omega (arith, longer, inv.count, c.in-Some.ensures.steps.1);
      capacity = search rules;
      same = c.speak_in.ensures.same ∙ inv.same;
    }

pub returns-clause-said : goal.returns-clause-said
returns-clause-said g c =
    let inv = c.loop-room.invariant in
    let whole = take_whole (vec_len c.loop-room.told) c.args.sessions.now (omega (arith, inv.count, c.in-None.ensures.steps.0)) in
    rw whole at inv.says
