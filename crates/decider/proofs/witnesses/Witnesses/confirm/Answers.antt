use Rattle.std.proofs.Common.{◌≡◌, ◌<◌, Some, List, length, subst, sym, ap, ◌∙◌, arith}
use Rattle.std.specs.Prelude.{All, slice_get}
use Rattle.std.proofs.lemmas.List.Elements.{All-set}
use Rattle.std.proofs.lemmas.Option.{slice_get-get_or, get_or_from_slice_get}
use Rattle.criteria_model.specs.Answers.{Meets}
use Rattle.decider.specs.declared.witnesses.Witness.{Witness}
use Rattle.decider.specs.Witnesses.{IsWitness, WitnessesView}
use Rattle.decider.proofs.WitnessLists.{witness_all}
use Rattle.decider.proofs.witnesses.Witnesses.confirm.Goals as goal

pub invariant_of-self : goal.invariant_of-self
invariant_of-self c =
    let lt : c.args.place < length c.self.inside.kept.items = omega (arith, c.requires.within, ap (λ view. length view.kept) c.self.view_is) in
    let read : Witness = c.index.result.now in
    let is : IsWitness c.self.inside.model.levels c.self.inside.answers.answers read = subst (IsWitness c.self.inside.model.levels c.self.inside.answers.answers) (sym c.index.ensures)
    (c.self.invariant.0 c.args.place read lt) in
    let meets : All (Meets c.self.inside.model.levels read.vector) c.self.inside.answers.answers =
    subst (λ (v : WitnessesView). slice_get v.kept c.args.place ≡ Some read → All (Meets v.levels read.vector) v.answers.answers) (sym c.self.view_is) (c.requires.meets read)
    (slice_get-get_or c.self.inside.kept.items c.args.place read lt ∙ ap (λ (w : Witness). Some w) (sym c.index.ensures)) in (
      All-set (IsWitness c.self.inside.model.levels c.self.inside.answers.answers) c.self.inside.kept.items c.args.place (record { vector = read.vector; met = c.len-met.result })
          (witness_all c.self.inside.model.levels c.self.inside.answers.answers
          (record { vector = read.vector; met = c.len-met.result }) is.vector is.coprime meets c.len-met.ensures.value) c.self.invariant.0,
      c.self.invariant.1,
      c.self.invariant.2,
      c.self.invariant.3,
    )

pub returns-clause-vector : goal.returns-clause-vector
returns-clause-vector c witness found =
    let kept : c.self.inside.kept.items ≡ c.args.self.now.kept = ap (λ view. view.kept) c.self.view_is in
    ap (λ (w : Witness). w.vector)
    (c.index.ensures ∙ get_or_from_slice_get c.self.inside.kept.items c.args.place witness c.index.result.now
    (subst (λ (l : List Witness). slice_get l c.args.place ≡ Some witness) (sym kept) found))
