use Rattle.std.proofs.Common.{◌≡◌, length, Some, sym, ap, subst, ◌∙◌}
use Rattle.std.proofs.lemmas.Result.{on_ok_weaker}
use Rattle.criteria_model.specs.Criteria.{IsModel}
use Rattle.criteria_model.specs.Worth.{increments}
use Rattle.result_file.specs.Reading.{read_answer, read_elimination}
use Rattle.result_file.specs.Kept.{KeptClaims}
use Rattle.result_file.proofs.ClaimLaws.{no_claim_kept, adds_answer, stops_answer, adds_elimination, stops_elimination, weights_len, scale_fits, if_err_weaker}
use Rattle.result_file.proofs.claims.Claims.add.Goals as goal
use Rattle.result_file.proofs.claims.Claims.add.Goals.{After-answer_of}

-- ---- the model and its numbers, as they were
module _ (c : After-answer_of) where
  model : IsModel c.args.self.now.model
  model = subst (λ (k : KeptClaims). IsModel k.model) c.self.view_is c.self.invariant.model

  width : c.self.inside.criteria ≡ length c.args.self.now.model.levels
  width = c.self.invariant.criteria ∙ ap (λ (k : KeptClaims). length k.model.levels) c.self.view_is

  steps : c.self.inside.increments ≡ increments c.args.self.now.model.levels
  steps = c.self.invariant.increments ∙ ap (λ (k : KeptClaims). increments k.model.levels) c.self.view_is

pub returns-in-Some-clause-added : goal.returns-in-Some-clause-added
returns-in-Some-clause-added c =
    let at = (goal.at.returns-in-Some-clause-added c).After-answer_of in
    let spelled : read_answer (length c.args.self.now.model.levels) c.args.line.now ≡ Some c.in-Some.answer = rw (← width at) (sym c.in-Some.ensures) in
    on_ok_weaker c.add_answer.result
    (λ added criteria claims keeps.
    adds_answer c.args.self.now c.add_answer.new.self c.args.line.now c.in-Some.answer (model at) spelled criteria claims keeps (added criteria claims keeps))
    c.add_answer.ensures.added

pub returns-in-Some-clause-failed : goal.returns-in-Some-clause-failed
returns-in-Some-clause-failed c =
    let at = (goal.at.returns-in-Some-clause-failed c).After-answer_of in
    let spelled : read_answer (length c.args.self.now.model.levels) c.args.line.now ≡ Some c.in-Some.answer = rw (← width at) (sym c.in-Some.ensures) in
    if_err_weaker c.add_answer.result _ _
    (λ stop failed criteria claims no_end keeps.
    stops_answer c.args.self.now c.args.line.now c.in-Some.answer stop (model at) spelled criteria claims keeps (failed criteria claims keeps))
    c.add_answer.ensures.failed

pub returns-in_default-elimination_of-clause-failed : goal.returns-in_default-elimination_of-clause-failed
returns-in_default-elimination_of-clause-failed c =
    let at = (goal.at.returns-in_default-elimination_of-clause-failed c).After-answer_of in
    no_claim_kept c.args.self.now c.args.line.now (model at) (rw (← width at) (sym c.in_default.ensures)) (rw (← width at, ← steps at) c.in_default-elimination_of.ensures)

pub add_elimination-requires-clause-len : goal.add_elimination-requires-clause-len
add_elimination-requires-clause-len c =
    let at = (goal.at.add_elimination-requires-clause-len c).After-answer_of in
    weights_len c.args.self.now.model c.args.line.now c.in-Some-elimination_of.elimination (model at) (rw (← width at, ← steps at) c.in-Some-elimination_of.ensures.0)

pub add_elimination-requires-clause-scale : goal.add_elimination-requires-clause-scale
add_elimination-requires-clause-scale c =
    let at = (goal.at.add_elimination-requires-clause-scale c).After-answer_of in
    scale_fits c.args.self.now.model c.args.line.now c.in-Some-elimination_of.elimination (model at) (rw (← width at, ← steps at) c.in-Some-elimination_of.ensures.0)

pub returns-clause-added : goal.returns-clause-added
returns-clause-added c =
    let at = (goal.at.returns-clause-added c).After-answer_of in
    let spelled : read_elimination (length c.args.self.now.model.levels) (increments c.args.self.now.model.levels) c.args.line.now
    ≡ Some c.in-Some-elimination_of.elimination = rw (← width at, ← steps at) c.in-Some-elimination_of.ensures.0 in
    on_ok_weaker c.add_elimination.result
    (λ added criteria claims keeps.
    adds_elimination c.args.self.now c.add_elimination.new.self c.args.line.now c.in-Some-elimination_of.elimination (model at) spelled c.in-Some-elimination_of.ensures.1
    criteria claims keeps (added criteria claims keeps))
    c.add_elimination.ensures.added

pub returns-clause-failed : goal.returns-clause-failed
returns-clause-failed c =
    let at = (goal.at.returns-clause-failed c).After-answer_of in
    let spelled : read_elimination (length c.args.self.now.model.levels) (increments c.args.self.now.model.levels) c.args.line.now
    ≡ Some c.in-Some-elimination_of.elimination = rw (← width at, ← steps at) c.in-Some-elimination_of.ensures.0 in
    if_err_weaker c.add_elimination.result _ _
    (λ stop failed criteria claims no_end keeps.
    stops_elimination c.args.self.now c.args.line.now c.in-Some-elimination_of.elimination stop (model at) spelled c.in-Some-elimination_of.ensures.1
    criteria claims keeps (failed criteria claims keeps))
    c.add_elimination.ensures.failed
