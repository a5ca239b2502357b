use Rattle.std.proofs.Common.{◌++◌, ◌∙◌, sym, ap}
use Rattle.json_forms.specs.Replies.{json_line, answer_json}
use Rattle.json_forms.proofs.replies.write_answer.Goals as goal

pub returns-in-Implied-clause-bytes : goal.returns-in-Implied-clause-bytes
returns-in-Implied-clause-bytes c = c.write_implied.ensures.bytes ∙ ap (λ reply. c.args.out.now.bytes ++ json_line (answer_json reply)) (sym c.in-Implied.is)
