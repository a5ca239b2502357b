use Rattle.std.proofs.Common.{ℕ, ◌-◌, ap, refl, ◌∙◌}
use Rattle.fraction_free.specs.Changes.{IsPivoted}
use Rattle.fraction_free.specs.Dictionary.{DictionaryView}
use Rattle.simplex.specs.Choice.{here, further}
use Rattle.simplex.specs.Results.{KeepsRows}
use Rattle.simplex.proofs.ByVariable.{pivot_falls}
use Rattle.simplex.proofs.solver.solve.Goals as goal

-- a pivot by the least-index rule leaves fewer to make
pub pivots-smaller : goal.pivots-smaller
pivots-smaller c =
    pivot_falls c.pivots.work c.pivot.new.self c.in-Some.ensures.dictionary c.pivot.ensures.dictionary (c.in-Some.row - 1) (c.in-Some-entering_column.col - 1)
    c.in-Some.ensures.choice.1 c.in-Some-entering_column.ensures.1
    (ap (λ (t : DictionaryView). t.loaded) c.pivot.ensures.pivoted.rest) (ap (λ (t : DictionaryView). t.columns) c.pivot.ensures.pivoted.rest) c.pivot.ensures.pivoted.basic
    (λ x. (c.pivot.ensures.solutions x).1)

keeps_same : (d : DictionaryView) → KeepsRows d d
keeps_same d = record { columns = refl; loaded = refl; room_columns = refl; room_rows = refl; loads = refl; added = refl }

keeps_further : (start old new : DictionaryView) (row column : ℕ) → KeepsRows start old → IsPivoted old new row column → KeepsRows start new
keeps_further start old new row column h p = record {
  columns = ap (λ (t : DictionaryView). t.columns) p.rest ∙ h.columns;
  loaded = ap (λ (t : DictionaryView). t.loaded) p.rest ∙ h.loaded;
  room_columns = ap (λ (t : DictionaryView). t.room_columns) p.rest ∙ h.room_columns;
  room_rows = ap (λ (t : DictionaryView). t.room_rows) p.rest ∙ h.room_rows;
  loads = ap (λ (t : DictionaryView). t.loads) p.rest ∙ h.loads;
  added = ap (λ (t : DictionaryView). t.added) p.rest ∙ h.added;
}

pub pivots-init : goal.pivots-init
pivots-init c = (keeps_same c.args.work.now, here)

pub pivots-preserved : goal.pivots-preserved
pivots-preserved c = (
  keeps_further _ c.pivots.work c.pivot.new.self (c.in-Some.row - 1) (c.in-Some-entering_column.col - 1) c.pivots.invariant.0 c.pivot.ensures.pivoted,
  further c.pivots.work c.pivot.new.self (c.in-Some.row - 1) (c.in-Some-entering_column.col - 1) c.pivots.invariant.1
      (record { leaving = c.in-Some.ensures.choice.1; entering = c.in-Some-entering_column.ensures.1; pivoted = c.pivot.ensures.pivoted }),
)
