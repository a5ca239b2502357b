-- What a verdict says of the source that a file came from.
use Rattle.std.specs.Prelude.{ℕ, List, Option}
use Rattle.edges.specs.Told.{IsAtEnd}
use Rattle.result_file.specs.declared.verdicts.Checked.{Checked}
use Rattle.result_file.specs.declared.verdicts.Checked.TheVariants.{Valid, ValidComplete}

-- a file that is valid was read to its end
abbrev pub EndsInput : Checked → Option (List ℕ) → Type 0
EndsInput Valid left = IsAtEnd left
EndsInput ValidComplete left = IsAtEnd left
EndsInput _ left = Unit {0}
