use Rattle.result_file.proofs.ContentLaws.{whole_complete, whole_incomplete}
use Rattle.result_file.proofs.bodies.Body.verdict.Goals as goal

pub returns-then-is_complete-clause-verdict : goal.returns-then-is_complete-clause-verdict
returns-then-is_complete-clause-verdict c = λ content h.
    whole_complete c.in-Survey.survey (c.is_complete.ensures.0 c.if-is_complete.true) content (rw c.in-Survey.is at h)

pub returns-else-is_complete-clause-verdict : goal.returns-else-is_complete-clause-verdict
returns-else-is_complete-clause-verdict c = λ content h.
    whole_incomplete c.in-Survey.survey
    (λ complete. let yes = c.is_complete.ensures.1 complete in let no = c.if-is_complete.false in absurd cc)
    content (rw c.in-Survey.is at h)
