use Rattle.std.proofs.Common.{◌≡◌, ◌-◌, sym, ap, subst, length, arith}
use Rattle.criteria_model.specs.Classes.{IsClass}
use Rattle.pair_enumeration.proofs.classes.Classes.class.Goals as goal

pub returns-clause-class : goal.returns-clause-class
returns-clause-class c =
    let v = c.self.view_is in
    let criteria : c.self.inside.model ≡ c.args.self.now.criteria = ap (λ l. l.criteria) v in
    let classes : c.self.inside.pairs.items ≡ c.args.self.now.classes = ap (λ l. l.classes) v in
    subst (λ m. IsClass m c.index.result.now) criteria
    ((c.self.invariant.list.members c.index.result.now).0 (c.args.place - 1, omega (arith, c.requires.low, c.requires.high, ap length classes), sym c.index.ensures))
