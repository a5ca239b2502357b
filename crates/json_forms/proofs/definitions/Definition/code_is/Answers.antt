use Rattle.std.proofs.Common.{Some, None, string_bytes}
use Rattle.json_forms.proofs.NumberedLemmas.{respondent_at, code_decides}
use Rattle.json_forms.proofs.definitions.Definition.code_is.Goals as goal

pub returns-in-Some : goal.returns-in-Some
returns-in-Some c =
    let at = respondent_at c.self.inside.respondents.entries c.args.respondent (Some (c.in-Some.field-0-0.now, c.in-Some.kept.now)) c.if-respondent-eq0.false c.in-Some.ensures.entry in
    rw (← c.self.view_is) (code_decides _ (string_bytes c.in-Some.kept.now) c.args.code.now c.as_bytes.result.now c.eq.result at c.as_bytes.ensures.value c.eq.ensures)

pub returns-in-None : goal.returns-in-None
returns-in-None c =
    let at = respondent_at c.self.inside.respondents.entries c.args.respondent None c.if-respondent-eq0.false c.in-None.ensures.entry in
    rw (← c.self.view_is, at) (λ t. absurd (cc t), λ e. absurd (cc e))
