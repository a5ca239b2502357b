use Rattle.std.proofs.Common.{◌≡◌, ◌≤◌, ℕ, List, Some, length, ap, subst, ◌∙◌}
use Rattle.criteria_model.specs.Pairs.{IsFit}
use Rattle.pair_enumeration.specs.Listed.{Listed, IsListed}
use Rattle.survey_core.specs.declared.events.Event.{Event}
use Rattle.survey_core.specs.declared.limits.TheConstants.{MAX_EVENTS}
use Rattle.survey_core.specs.Histories.{class_at, committed}
use Rattle.survey_core.specs.Legal.{IsLegal}
use Rattle.survey_core.proofs.ReadLemmas.{answers_fit}
use Rattle.survey_core.proofs.FollowLemmas.{few_committed}
use Rattle.survey_state.proofs.FindingLemmas.{kept_look}
use Rattle.survey_state.proofs.calls.look_at.Goals as goal

pub returns-clause-look : goal.returns-clause-look
returns-clause-look c =
    let listed : Listed = c.args.state.now.listed in
    let journal : List Event = c.args.state.now.journal in
    let model : IsListed listed = subst (λ (l : Listed). IsListed l) c.core-core.ensures.listed c.model.ensures.listed in
    let legal : IsLegal listed journal =
    subst (λ (l : Listed). IsLegal l journal) c.core-core.ensures.listed
    (subst (λ (h : List Event). IsLegal c.core-core.result.now.listed h) c.core-core.ensures.history c.model.ensures.legal) in
    let class : class_at listed.classes c.args.place ≡ Some c.class.result =
    subst (λ (l : Listed). class_at l.classes c.args.place ≡ Some c.class.result) c.core-core.ensures.listed c.class.ensures.value in
    record {
      at = c.requires.at;
      short = subst (λ (h : List Event). length h ≤ MAX_EVENTS) c.core-core.ensures.history c.model.ensures.short;
      model = c.model.ensures.value ∙ ap (λ (l : Listed). l.criteria) c.core-core.ensures.listed;
      class = class;
      fits = subst (λ (l : Listed). IsFit l.criteria.levels c.class.result) c.core-core.ensures.listed c.class.ensures.class.fits;
      kept = kept_look listed (committed listed.classes journal) c.args.place c.kept.result c.class.result class c.kept.ensures.kept;
      few = subst (λ (n : ℕ). length (committed listed.classes journal) ≤ n) model.len (few_committed listed journal model legal);
      answers_fit = answers_fit listed journal model;
    }
