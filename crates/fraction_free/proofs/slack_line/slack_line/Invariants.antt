use Rattle.std.proofs.Common.{◌≡◌, ◌≤◌, ◌+◌, ◌-◌, ◌*◌, ◌^◌, ℕ, List, length, unsigned_abs}
use Rattle.minors.specs.Combination.{IsCombination}
use Rattle.fraction_free.specs.declared.loaded.LoadedRow.{LoadedRow}
use Rattle.row_laws.specs.Rows.{entry}
use Rattle.fraction_free.specs.Representation.{AreMinors, slack_constant, square_of}
use Rattle.fraction_free.proofs.SlackLine.{part}
use Rattle.fraction_free.proofs.slack_line.slack_line.Given as goal

abbrev pub invariant-loop-variable : goal.invariant-loop-variable
invariant-loop-variable l = record {
  len : length l.line ≡ l.columns + 1;
  sizes : (at : ℕ) → unsigned_abs (entry l.line at) ≤ (25 + l.variable) * 2 ^ 89;
  combination : (loaded : List LoadedRow) → AreMinors l.columns loaded l.scale l.places.order l.lines
      → IsCombination l.scale (part l.columns (slack_constant (record { coefficients = l.coefficients; least = l.least })) l.coefficients (l.variable - 1)) l.line (square_of l.columns loaded l.places.order);
}
