use Rattle.decider.proofs.WitnessLists.{confirmed}
use Rattle.decider.proofs.witnesses.Witnesses.drop_failing.Goals as goal

pub confirm-vector-requires-clause-meets : goal.confirm-vector-requires-clause-meets
confirm-vector-requires-clause-meets c witness found =
    confirmed c.args.model.now.levels c.vectors.self.levels c.vectors.self.answers.answers c.args.answers.now.answers witness.vector
    c.vectors.invariant.levels c.vectors.invariant.begins (c.meets_all.ensures c.if-meets_all.true witness found).0
