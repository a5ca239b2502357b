-- What a definition calls criteria and levels.
use Rattle.std.proofs.Common.{◌≡◌, ℕ, zero, suc, List, [], ◌∷◌, length, map, refl, sym, ap, ◌∙◌}
use Rattle.std.specs.Prelude.{option_map}
use Rattle.std.proofs.lemmas.List.{length-map}
use Rattle.std.proofs.lemmas.Option.{slice_get-map}
use Rattle.row_laws.specs.Items.{item_at}
use Rattle.json_forms.specs.DefinitionViews.{CriterionView, DefinitionView, level_counts}
use Rattle.ranking.specs.Names.{IsEachNamed}
use Rattle.survey_server.specs.RankInput.{named_criteria}

-- an item of a list that was mapped
pub item_at-map : {A B : Type 0} (f : A → B) (items : List A) (number : ℕ) → item_at (map f items) number ≡ option_map f (item_at items number)
item_at-map f items zero = refl
item_at-map f items (suc place) = slice_get-map f items place

counts_are : (criteria : List CriterionView) → map length (map (λ criterion. criterion.levels) criteria) ≡ level_counts criteria
counts_are [] = refl
counts_are (criterion ∷ criteria) = ap (λ (counts : List ℕ). length criterion.levels ∷ counts) (counts_are criteria)

-- each criterion of a definition has a name, and each level
pub definition_names : (definition : DefinitionView) → IsEachNamed (named_criteria definition)
definition_names definition = record {
  criterion = length-map definition.criteria (λ criterion. criterion.name) ∙ sym (length-map definition.criteria (λ criterion. length criterion.levels));
  level = counts_are definition.criteria;
}
