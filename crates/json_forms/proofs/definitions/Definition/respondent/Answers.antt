use Rattle.std.proofs.Common.{Some, None, ◌∙◌, sym}
use Rattle.json_forms.proofs.NumberedLemmas.{respondent-number, respondent-none}
use Rattle.json_forms.proofs.definitions.Definition.respondent.Goals as goal

pub returns-in_default : goal.returns-in_default
returns-in_default c = rw (← c.self.view_is) (sym (respondent-none c.args.name.now c.self.inside.respondents.entries c.in_default.ensures.cases.0))

pub returns-in_err-place : goal.returns-in_err-place
returns-in_err-place c = c.from_residual.ensures ∙ rw (← c.self.view_is, ← c.in-Ok.ensures.cases.0) (respondent-number c.in-Ok.name.now c.self.inside.respondents.entries None c.in_err-place.ensures.index)

pub returns : goal.returns
returns c = rw (← c.self.view_is, ← c.in-Ok.ensures.cases.0) (respondent-number c.in-Ok.name.now c.self.inside.respondents.entries (Some c.in_ok-place.place) c.in_ok-place.ensures.index)
