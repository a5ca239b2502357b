use Rattle.std.proofs.Common.{◌≡◌, ◌∙◌, ap, sym, List, ℕ, map}
use Rattle.std.specs.Prelude.{Some}
use Rattle.std.specs.Bool.{Decides}
use Rattle.std.proofs.lemmas.Bool.Decides.{Decides-eqb}
use Rattle.std.proofs.lemmas.Slice.Eq.{slice_eq-Decides}
use Rattle.row_laws.specs.Items.{item_at}
use Rattle.json_forms.specs.DefinitionViews.{CriterionView}
use Rattle.survey_server.proofs.NameLemmas.{item_at-map}
use Rattle.survey_server.proofs.survey_names.SurveyNamesLevelNames.criterion_is.Goals as goal

pub returns : goal.returns
returns c =
    let same : Decides c.eq.result (c.criterion_name.result.now ≡ c.args.name.now) = slice_eq-Decides Decides-eqb _ _ _ c.eq.ensures in
    let names : List (List ℕ) = map (λ (criterion : CriterionView). criterion.name) c.args.self.now.definition.criteria in
    let named : item_at names c.args.criterion ≡ Some c.criterion_name.result.now =
    item_at-map (λ (criterion : CriterionView). criterion.name) c.args.self.now.definition.criteria c.args.criterion ∙ c.criterion_name.ensures in (
      λ yes. named ∙ ap (λ (name : List ℕ). Some name) (same.0 yes),
      λ is. let both : Some c.criterion_name.result.now ≡ Some c.args.name.now = sym named ∙ is in
          let one : c.criterion_name.result.now ≡ c.args.name.now = cc in same.1 one,
    )
