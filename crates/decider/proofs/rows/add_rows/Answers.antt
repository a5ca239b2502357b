use Rattle.std.proofs.Common.{refl, sym, ap, ◌∙◌, inr, length, arith}
use Rattle.criteria_model.specs.declared.pairs.Side.TheVariants.{Left, Right}
use Rattle.criteria_model.proofs.GainLemmas.{length-gain}
use Rattle.fraction_free.specs.Dictionary.{DictionaryView}
use Rattle.decider.proofs.rows.add_rows.Goals as goal

pub add_row-requires-clause-len : goal.add_row-requires-clause-len
add_row-requires-clause-len c = ap length c.gain.ensures ∙ length-gain c.args.model.now.levels c.args.pair.now Left c.requires.fits ∙ sym c.requires.columns

pub add_row-requires-in-Equal-clause-len : goal.add_row-requires-in-Equal-clause-len
add_row-requires-in-Equal-clause-len c =
    ap length c.gain-in-Equal.ensures ∙ length-gain c.args.model.now.levels c.args.pair.now Right c.requires.fits ∙ sym c.requires.columns
    ∙ sym (ap (λ (t : DictionaryView). t.columns) c.add_row.ensures.added.is)

pub add_row-requires-in_default : goal.add_row-requires-in_default
add_row-requires-in_default c = record {
  room = omega arith;
  len = ap length c.gain-in_default.ensures ∙ length-gain c.args.model.now.levels c.args.pair.now c.args.side c.requires.fits ∙ sym c.requires.columns;
  least = inr refl;
}
