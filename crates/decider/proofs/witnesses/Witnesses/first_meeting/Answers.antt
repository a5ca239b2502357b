use Rattle.std.proofs.Common.{ℤ, pos, ◌<ℤ◌, List, subst, sym}
use Rattle.std.proofs.lemmas.Option.{slice_get_within}
use Rattle.row_laws.specs.Rows.{dot}
use Rattle.criteria_model.specs.Answers.{MeetsAll}
use Rattle.simplex.specs.Rows.{IsCoprime}
use Rattle.decider.proofs.WitnessLists.{confirmed}
use Rattle.decider.proofs.witnesses.Witnesses.first_meeting.Goals as goal

pub confirm-requires-clause-meets : goal.confirm-requires-clause-meets
confirm-requires-clause-meets c witness found =
    confirmed c.args.model.now.levels c.witnesses.self.levels c.witnesses.self.answers.answers c.args.answers.now.answers witness.vector
    c.witnesses.invariant.levels c.witnesses.invariant.begins (c.meets_all.ensures c.if-meets_all.true witness found).0

pub returns-then-meets_all : goal.returns-then-meets_all
returns-then-meets_all c =
    let witness = c.in-Some.ensures.witness in
    let all = c.meets_all.ensures c.if-meets_all.true witness c.in-Some.ensures.is in
    subst (λ (v : List ℤ). MeetsAll c.args.model.now.levels c.args.answers.now.answers v × (pos 0 <ℤ dot v c.args.row.now) × IsCoprime v) (sym (c.confirm.ensures.vector witness c.in-Some.ensures.is))
    (all.0, c.in-Some.ensures.positive, all.1)

pub drop_at-requires : goal.drop_at-requires
drop_at-requires c = slice_get_within c.witnesses.self.kept c.in-Some.place c.in-Some.ensures.witness c.in-Some.ensures.is
