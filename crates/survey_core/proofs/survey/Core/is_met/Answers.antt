use Rattle.std.proofs.Common.{rules, ◌≡◌, ◌↔◌, true, false, IsTrue, ◌∷◌, [], ◌++◌, map, All, IsSomeAnd, sym, subst, ◌∙◌}
use Rattle.survey_core.specs.Recorded.{Recorded}
use Rattle.criteria_model.specs.Criteria.{Criteria}
use Rattle.criteria_model.specs.Pairs.{IsFit}
use Rattle.survey_core.proofs.KeptLemmas.{fit_at}
use Rattle.criteria_model.specs.Answers.{Ranks, MeetsAll}
use Rattle.survey_core.specs.Histories.{class_at, committed}
use Rattle.survey_core.proofs.KeptLemmas.{meets_at}
use Rattle.survey_core.proofs.survey.Core.is_met.Goals as goal

pub meets-requires-clause-fit : goal.meets-requires-clause-fit
meets-requires-clause-fit c =
    subst (λ (m : Criteria). All (λ answer. IsFit m.levels answer.pair) c.self.inside.answers.answers) (sym c.model-model.ensures.value) (fit_at _ _ _ _ _ _ c.self.invariant)

pub returns-then-meets : goal.returns-then-meets
returns-then-meets c =
    let both : (MeetsAll c.model-model.result.levels c.self.inside.answers.answers c.args.point.now × Ranks c.model-model.result.levels c.args.point.now c.class-pair.result c.args.side)
    ↔ IsSomeAnd (class_at c.self.inside.classes.classes c.args.place)
    (λ pair. MeetsAll c.self.inside.classes.criteria.levels
    (committed c.self.inside.classes.classes (map (λ event. event.value) c.self.inside.events.items) ++ record { pair = pair; side = c.args.side } ∷ []) c.args.point.now) =
    (meets_at _ _ _ _ _ _ c.self.invariant c.model-model.result c.args.place c.class-pair.result c.args.side c.args.point.now c.model-model.ensures.value c.class-pair.ensures.value) in
    let ranks : IsTrue c.eq.result ↔ Ranks c.model-model.result.levels c.args.point.now c.class-pair.result c.args.side = search rules in
    subst (λ (r : Recorded). IsTrue c.eq.result ↔ IsSomeAnd (class_at r.listed.classes c.args.place)
    (λ pair. MeetsAll r.listed.criteria.levels (committed r.listed.classes r.history ++ record { pair = pair; side = c.args.side } ∷ []) c.args.point.now)) c.self.view_is
    ((λ h. both.0 (c.meets.ensures.0 c.if-meets.true, ranks.0 h)), (λ h. ranks.1 (both.1 h).1))

pub returns-else-meets : goal.returns-else-meets
returns-else-meets c =
    let both : (MeetsAll c.model-model.result.levels c.self.inside.answers.answers c.args.point.now × Ranks c.model-model.result.levels c.args.point.now c.class-pair.result c.args.side)
    ↔ IsSomeAnd (class_at c.self.inside.classes.classes c.args.place)
    (λ pair. MeetsAll c.self.inside.classes.criteria.levels
    (committed c.self.inside.classes.classes (map (λ event. event.value) c.self.inside.events.items) ++ record { pair = pair; side = c.args.side } ∷ []) c.args.point.now) =
    (meets_at _ _ _ _ _ _ c.self.invariant c.model-model.result c.args.place c.class-pair.result c.args.side c.args.point.now c.model-model.ensures.value c.class-pair.ensures.value) in
    subst (λ (r : Recorded). IsTrue c.meets.result ↔ IsSomeAnd (class_at r.listed.classes c.args.place)
    (λ pair. MeetsAll r.listed.criteria.levels (committed r.listed.classes r.history ++ record { pair = pair; side = c.args.side } ∷ []) c.args.point.now)) c.self.view_is
    ((λ h. absurd (let no_more : true ≡ false = sym h ∙ c.if-meets.false in cc)), (λ h. c.meets.ensures.1 (both.1 h).0))
