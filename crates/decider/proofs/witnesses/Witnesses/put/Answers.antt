use Rattle.std.proofs.Common.{subst, sym, arith}
use Rattle.std.specs.Prelude.{All}
use Rattle.std.proofs.lemmas.List.Elements.{All-set, All-push}
use Rattle.criteria_model.specs.Worth.{IsValueVector}
use Rattle.criteria_model.specs.Answers.{Meets}
use Rattle.decider.specs.declared.witnesses.Witness.{Witness}
use Rattle.decider.specs.Witnesses.{IsWitness, WitnessesView}
use Rattle.decider.proofs.WitnessLists.{witness_all}
use Rattle.decider.proofs.witnesses.Witnesses.put.Goals as goal
use Rattle.decider.proofs.witnesses.Witnesses.put.Goals.{After-len}

module _ (c : After-len) where
  witness : Witness
  witness = record { vector = c.args.vector.now; met = c.len.result }

  is_witness : IsWitness c.self.inside.model.levels c.self.inside.answers.answers witness
  unfolding witness
  is_witness =
      witness_all c.self.inside.model.levels c.self.inside.answers.answers witness
      (subst (λ (v : WitnessesView). IsValueVector v.levels c.args.vector.now) (sym c.self.view_is) c.requires.vector) c.requires.coprime
      (subst (λ (v : WitnessesView). All (Meets v.levels c.args.vector.now) v.answers.answers) (sym c.self.view_is) c.requires.meets) c.len.ensures.value

pub invariant_of-self : goal.invariant_of-self
unfolding witness
invariant_of-self c =
    let at = (goal.at.invariant_of-self c).After-len in (
      subst (All (IsWitness c.self.inside.model.levels c.self.inside.answers.answers)) (sym c.push_reserved.ensures.items)
          (All-push (IsWitness c.self.inside.model.levels c.self.inside.answers.answers) c.self.inside.kept.items
          (record { vector = c.args.vector.now; met = c.len.result }) c.self.invariant.0 (is_witness at)),
      omega arith,
      omega arith,
      c.self.invariant.3,
    )

pub invariant_of-self-else-len-lt-MAX_WITNESSES : goal.invariant_of-self-else-len-lt-MAX_WITNESSES
unfolding witness
invariant_of-self-else-len-lt-MAX_WITNESSES c =
    let at = (goal.at.invariant_of-self-else-len-lt-MAX_WITNESSES c).After-len in (
      All-set (IsWitness c.self.inside.model.levels c.self.inside.answers.answers) c.self.inside.kept.items c.self.inside.next (record { vector = c.args.vector.now; met = c.len.result })
          (is_witness at) c.self.invariant.0,
      omega arith,
      omega arith,
      omega arith,
    )
