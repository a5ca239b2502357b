use Rattle.std.proofs.Common.{refl, sym, subst, arith}
use Rattle.survey_core.specs.Histories.{committed}
use Rattle.survey_state.specs.States.{Surveyed, IsKept}
use Rattle.survey_state.proofs.JournalLemmas.{keeps_with}
use Rattle.survey_state.proofs.PoolLemmas.{vectors_kept}
use Rattle.survey_state.proofs.state.State.keep_met.Goals as goal

pub invariant_of-self : goal.invariant_of-self
invariant_of-self c =
    let vectors = subst (λ (s : Surveyed). IsKept s.listed (committed s.listed.classes s.journal) c.args.place
    (record { plus = c.args.plus; minus = c.args.minus; met = c.args.met })) (sym c.self.view_is) c.requires.vectors in
    keeps_with _ _ _ c.self.invariant refl
    (vectors_kept c.self.invariant.pool_of c.args.place (record { plus = c.args.plus; minus = c.args.minus; met = c.args.met }) _ c.requires.place.0 vectors c.keep_met.ensures.marks c.keep_met.ensures.kept)
    (omega arith)
