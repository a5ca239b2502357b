use Rattle.std.proofs.Common.{◌∙◌, ◌+◌, arith}
use Rattle.survey_replies.proofs.CallLemmas.{prefix_trans}
use Rattle.result_file.specs.Events.{event_line}
use Rattle.result_file.proofs.JournalLemmas.{on_err_any, line_step, numbers_step, legal_names, failed_first, failed_step}
use Rattle.result_file.proofs.journals.write_events.Goals as goal

pub returns-in_err-make_room-clause-prefix : goal.returns-in_err-make_room-clause-prefix
returns-in_err-make_room-clause-prefix g c =
    let listed = g.E.Events.listed (g.E.Events.about c.args.events.now) in
    let line = event_line listed.classes in
    let journal = (g.E.Events.seen c.args.events.now).journal in
    on_err_any _ _ (failed_first line journal c.args.count _ _ c.args.text.now.bytes c.in_err-make_room.ensures.prefix)

pub write_line-requires-clause-class : goal.write_line-requires-clause-class
write_line-requires-clause-class g c =
    let listed = g.E.Events.listed (g.E.Events.about c.args.events.now) in
    let journal = (g.E.Events.seen c.args.events.now).journal in
    let grown = (g.E.Events.seen c.loop-place.events).journal in
    rw c.loop-place.invariant.same
    (legal_names listed journal grown c.loop-place.place
    c.length-seen.ensures.legal c.loop-place.invariant.watches.longer (omega (arith, c.loop-place-test.true, c.requires.within)))

pub returns-in_err-make_room-2-clause-prefix : goal.returns-in_err-make_room-2-clause-prefix
returns-in_err-make_room-2-clause-prefix g c =
    let listed = g.E.Events.listed (g.E.Events.about c.args.events.now) in
    let line = event_line listed.classes in
    let journal = (g.E.Events.seen c.args.events.now).journal in
    let grown = (g.E.Events.seen c.loop-place.events).journal in
    on_err_any _ _
    (failed_step line journal (c.loop-place.place + 1) c.args.count _ _ _ c.args.text.now.bytes c.write_line.new.text.bytes
    (omega (arith, c.loop-place-test.true))
    (line_step line journal grown c.loop-place.place _ _ c.args.text.now.bytes c.loop-place.text.bytes c.write_line.new.text.bytes
    c.loop-place.invariant.watches.longer (omega (arith, c.loop-place-test.true, c.requires.within)) c.loop-place.invariant.out
    (rw c.loop-place.invariant.same at c.write_line.ensures.bytes))
    c.in_err-make_room-2.ensures.prefix)

pub loop-place-preserved : goal.loop-place-preserved
loop-place-preserved g c =
    let listed = g.E.Events.listed (g.E.Events.about c.args.events.now) in
    let line = event_line listed.classes in
    let journal = (g.E.Events.seen c.args.events.now).journal in
    let grown = (g.E.Events.seen c.loop-place.events).journal in
    record {
      out = c.in_ok-make_room-2.ensures.out _ _
          (line_step line journal grown c.loop-place.place _ _ c.args.text.now.bytes c.loop-place.text.bytes c.write_line.new.text.bytes
          c.loop-place.invariant.watches.longer (omega (arith, c.loop-place-test.true, c.requires.within)) c.loop-place.invariant.out
          (rw c.loop-place.invariant.same at c.write_line.ensures.bytes));
      numbers = numbers_step journal grown c.loop-place.place c.loop-place.invariant.watches.longer
          (omega (arith, c.loop-place-test.true, c.requires.within)) c.loop-place.invariant.numbers c.write_line.ensures.numbers;
      free = c.in_ok-make_room-2.ensures.free;
      room = c.in_ok-make_room-2.ensures.room ∙ c.write_line.ensures.room ∙ c.loop-place.invariant.room;
      quiet = c.in_ok-make_room-2.ensures.quiet ∙ c.loop-place.invariant.quiet;
      watches = record {
        longer = prefix_trans _ _ _ c.loop-place.invariant.watches.longer c.write_line.ensures.watches.longer;
        own = c.write_line.ensures.watches.own ∙ c.loop-place.invariant.watches.own;
      };
      same = c.write_line.ensures.same ∙ c.loop-place.invariant.same;
    }
