use Rattle.std.proofs.Common.{◌≡◌, ℕ, List, Some, length, drop, ap, sym, subst, ◌∙◌, arith}
use Rattle.std.specs.Prelude.{slice_get}
use Rattle.criteria_model.specs.Answers.{MeetsAll}
use Rattle.answer_rows.specs.Room.{BeginsWith, AnswersWithRoom}
use Rattle.decider.specs.declared.witnesses.Witness.{Witness}
use Rattle.decider.specs.Witnesses.{IsWitness}
use Rattle.decider.proofs.WitnessLists.{witness_at, witness_meets}
use Rattle.decider.proofs.witnesses.Witnesses.meets_all.Goals as goal

pub returns : goal.returns
returns c met witness found =
    let levels : c.self.inside.model.levels ≡ c.args.model.now.levels = ap (λ view. view.levels) c.self.view_is ∙ c.requires.levels in
    let begins : BeginsWith c.args.answers.now.answers c.self.inside.answers.answers = subst (λ (known : AnswersWithRoom). BeginsWith c.args.answers.now.answers known.answers)
    (sym (ap (λ view. view.answers) c.self.view_is)) c.requires.begins in
    let kept : c.self.inside.kept.items ≡ c.args.self.now.kept = ap (λ view. view.kept) c.self.view_is in
    let at = witness_at c.self.inside.model.levels c.self.inside.answers.answers c.self.inside.kept.items c.args.place c.index-witness.result.now witness c.self.invariant.0
    (omega (arith, c.requires.within, ap length kept)) c.index-witness.ensures (subst (λ (l : List Witness). slice_get l c.args.place ≡ Some witness) (sym kept) found) in
    let is = subst (λ (l : List ℕ). IsWitness l c.self.inside.answers.answers witness) levels at.1 in (
      witness_meets c.args.model.now.levels c.self.inside.answers.answers c.args.answers.now.answers witness begins is
          (let later = c.meets_from.ensures.0 met in subst (λ (w : Witness). MeetsAll c.args.model.now.levels (drop w.met c.args.answers.now.answers) w.vector) at.0 later),
      is.coprime,
    )
