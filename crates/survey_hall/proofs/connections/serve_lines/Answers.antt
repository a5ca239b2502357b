use Rattle.std.proofs.Common.{refl, inl, inr}
use Rattle.std.proofs.lemmas.Option.{same_Some}
use Rattle.json_forms.specs.declared.replies.Word.TheVariants.{Line}
use Rattle.survey_hall.proofs.connections.serve_lines.Goals as goal

pub returns-in-Admits-clause-too_long : goal.returns-in-Admits-clause-too_long
returns-in-Admits-clause-too_long g c = λ same. c.run_at-run.ensures.too_long (same_Some _ _ same)

pub returns-in-Err-clause-served : goal.returns-in-Err-clause-served
returns-in-Err-clause-served g c = record {
  word = c.in-Refuses.word;
  refused = inl (rw c.definition.ensures at c.in-Refuses.ensures.greets);
  put = c.in-Err.ensures.prefix;
}

pub returns-in-Err-refuse-clause-served : goal.returns-in-Err-refuse-clause-served
returns-in-Err-refuse-clause-served g c = record {
  word = Line;
  refused = inr (refl, rw c.in-Ends-LineTooLong.field-0-is at c.in-Ends-LineTooLong.ensures.greets);
  put = c.in-Err-refuse.ensures.prefix;
}
