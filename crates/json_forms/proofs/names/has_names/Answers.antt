use Rattle.std.proofs.Common.{◌∙◌, ap, sym}
use Rattle.std.specs.List.{list_all}
use Rattle.json_forms.specs.Definitions.{has_criterion_names, has_respondent_names}
use Rattle.json_forms.specs.EntryViews.{criterion_view, respondent_view}
use Rattle.json_forms.proofs.NameLemmas.{all_seen, and_true, and_false}
use Rattle.json_forms.proofs.names.has_names.Goals as goal

pub returns-then-criteria_have_names : goal.returns-then-criteria_have_names
returns-then-criteria_have_names c =
    let criteria = c.criteria_have_names.ensures ∙ ap (list_all (λ criterion. has_criterion_names (criterion_view criterion))) c.as_slice.ensures.value
    ∙ all_seen has_criterion_names criterion_view c.form.inside.criteria.items in
    let respondents = c.respondents_have_names.ensures ∙ ap (list_all (λ respondent. has_respondent_names (respondent_view respondent))) c.as_slice-then-criteria_have_names.ensures.value
    ∙ all_seen has_respondent_names respondent_view c.form.inside.respondents.items in
    rw (← c.form.view_is) (and_true _ _ _ (sym criteria ∙ c.if-criteria_have_names.true) respondents)

pub returns-else-criteria_have_names : goal.returns-else-criteria_have_names
returns-else-criteria_have_names c =
    let criteria = c.criteria_have_names.ensures ∙ ap (list_all (λ criterion. has_criterion_names (criterion_view criterion))) c.as_slice.ensures.value
    ∙ all_seen has_criterion_names criterion_view c.form.inside.criteria.items in
    rw (← c.form.view_is) (and_false _ _ _ (sym criteria ∙ c.if-criteria_have_names.false) c.if-criteria_have_names.false)
