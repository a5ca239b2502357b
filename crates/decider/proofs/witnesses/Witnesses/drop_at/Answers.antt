use Rattle.std.proofs.Common.{◌<◌, subst, sym, ap, length, arith}
use Rattle.std.specs.Prelude.{All}
use Rattle.decider.specs.Witnesses.{IsWitness}
use Rattle.decider.proofs.WitnessLists.{All-swap_remove}
use Rattle.decider.proofs.witnesses.Witnesses.drop_at.Goals as goal

pub invariant_of-self : goal.invariant_of-self
invariant_of-self c =
    let lt : c.args.place < length c.self.inside.kept.items = omega (arith, c.requires, ap (λ view. length view.kept) c.self.view_is) in (
      subst (All (IsWitness c.self.inside.model.levels c.self.inside.answers.answers)) (sym c.swap_remove-dropped.ensures.items)
          (All-swap_remove (IsWitness c.self.inside.model.levels c.self.inside.answers.answers) c.self.inside.kept.items c.args.place c.swap_remove-dropped.result lt c.self.invariant.0),
      omega (arith, c.self.invariant.1, c.swap_remove-dropped.ensures.len),
      omega (arith, c.self.invariant.2, c.swap_remove-dropped.ensures.capacity),
      c.self.invariant.3,
    )
