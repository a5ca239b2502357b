-- What the reader of eliminate lines answers.
use Rattle.std.specs.Prelude.{◌≡◌, Option, Some, None}
use Rattle.farkas_check.specs.Cited.{AreCites}
use Rattle.result_file.specs.declared.eliminations.Elimination.{Elimination}

-- what was read is what the line spells, with cites in order; or nothing was, since the line spells no such elimination
abbrev pub Reads : Option Elimination → Option Elimination → Type 0
Reads None spelled = (elimination : Elimination) → spelled ≡ Some elimination → ¬ AreCites elimination.combination.answers
Reads (Some elimination) spelled = (spelled ≡ Some elimination) × AreCites elimination.combination.answers
