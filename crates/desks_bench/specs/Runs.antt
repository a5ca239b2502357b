-- Surveys that are run, and the passes by which they are worked at.
use Rattle.std.specs.Prelude.{◌≡◌, ℕ, List}
use Rattle.criteria_model.specs.Criteria.{Criteria}
use Rattle.criteria_model.specs.Pairs.{IsFit}
use Rattle.pair_enumeration.specs.Listed.{Listed, IsListed}
use Rattle.survey_core.specs.Legal.{IsDesk}
use Rattle.survey_replies.specs.declared.replies.NextReply.{NextReply}
use Rattle.survey_replies.specs.declared.replies.NextReply.TheVariants.{Question}
use Rattle.shared_survey.specs.declared.pass.Pass.{Pass}
use Rattle.shared_survey.specs.declared.survey.Survey.{Survey}
use Rattle.shared_survey.specs.Passes.{IsPassOf, desk_of, pass_weight}

-- the survey is of the model
pub record IsOf (criteria : Criteria) (listed : Listed) : Type 0 where
  pub list : IsListed listed
  pub model : listed.criteria ≡ criteria

-- the pair of a question fits the model
abbrev pub AsksFitPair : List ℕ → NextReply → Type 0
AsksFitPair levels (Question at number place pair) = IsFit levels pair
AsksFitPair levels _ = Unit {0}

-- a pass for one thread
pub record IsSingle (survey : Survey) (pass : Pass) : Type 0 where
  pub of : IsPassOf survey pass
  pub weight : pass_weight pass ≡ 1

-- the pass of a desk
pub record IsDeskPass (survey : Survey) (pass : Pass) : Type 0 where
  pub single : IsSingle survey pass
  pub desk : IsDesk (desk_of pass)

-- a pass from which so many can be split off
pub record HasWeight (survey : Survey) (pass : Pass) (weight : ℕ) : Type 0 where
  pub of : IsPassOf survey pass
  pub weight_is : pass_weight pass ≡ weight
