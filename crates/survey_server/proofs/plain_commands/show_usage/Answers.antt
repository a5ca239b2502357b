use Rattle.std.proofs.Common.{◌≡◌, [], ap, refl, ◌∙◌, inl}
use Rattle.edges.specs.Text.{TextView}
use Rattle.survey_server.specs.Command.{usage_line}
use Rattle.survey_server.proofs.plain_commands.show_usage.Goals as goal

pub returns-clause-usage : goal.returns-clause-usage
returns-clause-usage g c =
    let empty : c.in-Ok.text.bytes ≡ [] = ap (λ (t : TextView). t.bytes) c.in-Ok.ensures in
    let text : c.bytes.result.now ≡ usage_line = c.bytes.ensures ∙ c.add.ensures.bytes ∙ rw empty refl in
    inl (rw text at c.write.ensures.written)
