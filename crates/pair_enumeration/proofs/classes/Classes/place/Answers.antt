use Rattle.std.proofs.Common.{subst, get_or, List, Contains}
use Rattle.std.proofs.lemmas.List.{get_or_default}
use Rattle.criteria_model.specs.declared.pairs.Pair.{Pair}
use Rattle.pair_enumeration.proofs.classes.Classes.place.Goals as goal

pub place_among-requires-clause-pairs_fit : goal.place_among-requires-clause-pairs_fit
place_among-requires-clause-pairs_fit c =
    λ k d l.
    let pair = get_or c.as_slice.result.now k d in
    let P : List Pair → Type 0 = λ xs. Contains xs pair in
    let member = subst P c.as_slice.ensures.value (k, l, get_or_default c.as_slice.result.now k pair d l) in
    ((c.self.invariant.list.members pair).0 member).fits
