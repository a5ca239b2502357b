use Rattle.std.proofs.Common.{◌≡◌, ◌∙◌, ℕ, ℤ, List, length, to_z, of_z, sym, ap, arith}
use Rattle.std.proofs.lemmas.List.{with_items_is}
use Rattle.std.specs.Int.{w128}
use Rattle.row_laws.proofs.Integers.{read_back}
use Rattle.fraction_free.specs.Representation.{AreExchanged}
use Rattle.fraction_free.proofs.lines.pivot_lines.Goals as goal

exchanged_along : (s t : ℤ) (at column : ℕ) (old given new next : List (List ℤ)) → t ≡ s → given ≡ old → next ≡ new → AreExchanged t at column given new → AreExchanged s at column old next
exchanged_along s t at column old given new next i j k h = rw (sym i, sym j, k) h

pub returns-clause-lines : goal.returns-clause-lines
returns-clause-lines c =
    exchanged_along c.args.scale (to_z w128 (of_z w128 c.args.scale)) c.args.at c.args.column c.args.lines.now.items c.as_mut_slice.result.now c.exchange_lines.new.lines _
    (read_back w128 c.args.scale (omega (arith, c.requires.exact.scale_size))) c.as_mut_slice.ensures.value
    (with_items_is c.args.lines.now c.exchange_lines.new.lines (c.exchange_lines.ensures.len ∙ ap length c.as_mut_slice.ensures.value ∙ sym c.args.lines.now.ok.0))
    c.exchange_lines.ensures
