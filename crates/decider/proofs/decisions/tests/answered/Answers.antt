use Rattle.std.proofs.Common.{sym, subst}
use Rattle.std.specs.Prelude.{All}
use Rattle.std.proofs.lemmas.List.Elements.{All-push}
use Rattle.criteria_model.specs.declared.pairs.Answer.{Answer}
use Rattle.criteria_model.specs.Pairs.{IsFit}
use Rattle.decider.proofs.decisions.tests.answered.Goals as goal

pub returns : goal.returns
returns g c =
    subst (All (λ (answer : Answer). IsFit c.args.model.now.levels answer.pair)) (sym c.push.ensures.answers)
    (All-push (λ (answer : Answer). IsFit c.args.model.now.levels answer.pair) c.grow.new.self.answers (record { pair = c.args.pair; side = c.args.side })
    (subst (All (λ (answer : Answer). IsFit c.args.model.now.levels answer.pair)) (sym c.in_ok-grow.ensures.answers) c.requires) (c.fits.ensures.0 c.if-not-fits.false))
