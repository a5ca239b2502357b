use Rattle.std.proofs.Common.{get_or, ap, sym, subst, arith}
use Rattle.answer_rows.specs.Room.{BeginsWith, AnswersWithRoom}
use Rattle.decider.proofs.WitnessLists.{begins_still, witness_more}
use Rattle.decider.proofs.witnesses.Witnesses.take_over.Goals as goal

pub invariant_of-self : goal.invariant_of-self
invariant_of-self c =
    let begins : BeginsWith c.args.answers.now.answers c.self.inside.answers.answers = subst (λ (known : AnswersWithRoom). BeginsWith c.args.answers.now.answers known.answers)
    (sym (ap (λ view. view.answers) c.self.view_is)) c.requires in
    let still = begins_still c.self.inside.answers.answers c.args.answers.now.answers c.copy_from-missing.new.self.answers _ begins (omega arith) c.copy_from-missing.ensures.answers in (
      λ k d lt. witness_more c.self.inside.model.levels c.self.inside.answers.answers c.copy_from-missing.new.self.answers (get_or c.self.inside.kept.items k d) still (c.self.invariant.0 k d lt),
      c.self.invariant.1,
      c.self.invariant.2,
      c.self.invariant.3,
    )
