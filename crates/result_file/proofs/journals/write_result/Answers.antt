use Rattle.std.proofs.Common.{[], ◌∷◌, map, take}
use Rattle.result_file.specs.declared.entries.Format.TheVariants.{Two}
use Rattle.result_file.specs.declared.kinds.Kind.TheVariants.{Result}
use Rattle.result_file.specs.Events.{event_line}
use Rattle.result_file.specs.Texts.{heading, model_line}
use Rattle.result_file.proofs.FormLemmas.{legal_first, right_file}
use Rattle.result_file.proofs.JournalLemmas.{on_ok, on_ok_any, on_err, on_err_any, head_is, file_out, file_failed, file_failed_early}
use Rattle.result_file.proofs.journals.write_result.Goals as goal

pub returns-in_err-write_events-clause-prefix : goal.returns-in_err-write_events-clause-prefix
returns-in_err-write_events-clause-prefix g c =
    let listed = g.E.Events.listed (g.E.Events.about c.args.events.now) in
    let journal = (g.E.Events.seen c.args.events.now).journal in
    on_err_any _ _
    (file_failed_early (heading (Result Two) ∷ model_line listed.criteria ∷ []) (map (event_line listed.classes) (take c.args.count journal))
    _ _ c.write_heading.new.out.bytes
    (head_is _ _ _ _ c.requires.empty c.requires.model c.write_heading.ensures.bytes) c.in_err-write_events.ensures.prefix)

pub returns-clause-written : goal.returns-clause-written
returns-clause-written g c =
    let listed = g.E.Events.listed (g.E.Events.about c.args.events.now) in
    let journal = (g.E.Events.seen c.args.events.now).journal in
    on_ok c.put_all.result _ _
    (file_out (heading (Result Two) ∷ model_line listed.criteria ∷ []) (map (event_line listed.classes) (take c.args.count journal))
    _ _ _ c.write_heading.new.out.bytes c.write_events.new.text.bytes c.add.new.self.bytes
    (head_is _ _ _ _ c.requires.empty c.requires.model c.write_heading.ensures.bytes) c.in_ok-write_events.ensures.out c.add.ensures.bytes)
    c.put_all.ensures.written

pub returns-clause-right : goal.returns-clause-right
returns-clause-right g c =
    let listed = g.E.Events.listed (g.E.Events.about c.args.events.now) in
    let journal = (g.E.Events.seen c.args.events.now).journal in
    on_ok_any c.put_all.result _
    (right_file listed (take c.args.count journal) c.in_ok-write_events.ensures.listed
    (legal_first listed journal c.args.count c.in_ok-write_events.ensures.legal) c.in_ok-write_events.ensures.numbers)

pub returns-clause-prefix : goal.returns-clause-prefix
returns-clause-prefix g c =
    let listed = g.E.Events.listed (g.E.Events.about c.args.events.now) in
    let journal = (g.E.Events.seen c.args.events.now).journal in
    on_err c.put_all.result _ _
    (file_failed (heading (Result Two) ∷ model_line listed.criteria ∷ []) (map (event_line listed.classes) (take c.args.count journal))
    _ _ _ c.write_heading.new.out.bytes c.write_events.new.text.bytes c.add.new.self.bytes
    (head_is _ _ _ _ c.requires.empty c.requires.model c.write_heading.ensures.bytes) c.in_ok-write_events.ensures.out c.add.ensures.bytes)
    c.put_all.ensures.prefix
