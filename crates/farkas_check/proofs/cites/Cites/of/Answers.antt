use Rattle.row_laws.proofs.ListLemmas.{written_over}
use Rattle.farkas_check.specs.declared.cites.TheConstants.{MAX_CITES}
use Rattle.farkas_check.specs.Cited.{AreCites, no_cite}
use Rattle.farkas_check.proofs.cites.Cites.of.Goals as goal

pub invariant_of-result : goal.invariant_of-result
invariant_of-result c =
    let fits : AreCites c.args.items.now = c.are_cites.ensures.0 c.if-not-are_cites.false in
    written_over MAX_CITES no_cite c.args.items.now _ AreCites fits.most c.copy_from_slice.ensures.after fits
