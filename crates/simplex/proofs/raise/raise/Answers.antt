use Rattle.std.proofs.Common.{ℕ, ◌+◌, ◌-◌, ap, sym, ◌∙◌, arith}
use Rattle.fraction_free.specs.Dictionary.{DictionaryView}
use Rattle.simplex.proofs.Raises.{raise_keeps}
use Rattle.simplex.proofs.raise.raise.Goals as goal

pub loop-preserved : goal.loop-preserved
loop-preserved c =
    let p = c.pivot.ensures.pivoted in
    let before = c.loop.invariant.rows in
    let column = c.in-Some.ensures.1 in
    let row = c.in-Some-first_at_zero.ensures in
    record {
      rows = record {
        columns = ap (λ (t : DictionaryView). t.columns) p.rest ∙ before.columns;
        loaded = ap (λ (t : DictionaryView). t.loaded) p.rest ∙ before.loaded;
        room_columns = ap (λ (t : DictionaryView). t.room_columns) p.rest ∙ before.room_columns;
        room_rows = ap (λ (t : DictionaryView). t.room_rows) p.rest ∙ before.room_rows;
        loads = ap (λ (t : DictionaryView). t.loads) p.rest ∙ before.loads;
        added = ap (λ (t : DictionaryView). t.added) p.rest ∙ before.added;
      };
      dictionary = c.pivot.ensures.dictionary;
      others = λ feasible.
          raise_keeps c.loop.work c.pivot.new.self (c.args.last - 1) (c.in-Some-first_at_zero.row - 1) (c.in-Some.col - 1) c.loop.invariant.dictionary column.within p row.1
          (λ e. c.if-row-last.false (omega (arith, e, row.0, c.requires.last, c.requires.some))) (c.loop.invariant.others feasible);
    }
