use Rattle.std.proofs.lemmas.Result.{on_ok_weaker}
use Rattle.result_file.proofs.ContentLaws.{adds_claims, adds_events}
use Rattle.result_file.proofs.bodies.Body.add.Goals as goal

pub returns-in-Claims-clause-added : goal.returns-in-Claims-clause-added
returns-in-Claims-clause-added c =
    on_ok_weaker c.add.result
    (λ added content h. adds_claims c.in-Claims.claims c.add.new.self c.args.line.now added content (rw c.in-Claims.is at h))
    c.add.ensures.added

pub returns-in-Survey-clause-added : goal.returns-in-Survey-clause-added
returns-in-Survey-clause-added c =
    on_ok_weaker c.add-in-Survey.result
    (λ added content h. adds_events c.in-Survey.survey c.add-in-Survey.new.self c.args.line.now added content (rw c.in-Survey.is at h))
    c.add-in-Survey.ensures.added
