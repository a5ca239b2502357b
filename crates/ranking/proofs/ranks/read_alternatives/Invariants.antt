use Rattle.std.proofs.Common.{◌≡◌, ◌+◌, drop, length, map}
use Rattle.csv.specs.Records.{fields_of}
use Rattle.ranking.specs.Tables.{alternatives_in}
use Rattle.ranking.proofs.ReadLemmas.{worths_after}
use Rattle.ranking.proofs.ranks.read_alternatives.Given as goal

-- The alternatives so far, and those of the records that are left, are those of all records.
abbrev pub invariant-loop-row : goal.invariant-loop-row
invariant-loop-row g l =
    let criteria = (goal.LevelNames-dyn g l.names.now).criteria l.names.now.1 in
    let rows = map fields_of l.rows in
    record {
      place : l.place ≡ l.row-index + 2;
      len : length l.alternatives.items ≡ l.row-index;
      read : worths_after l.alternatives.items (alternatives_in criteria l.vector l.place (drop l.row-index rows)) ≡ alternatives_in criteria l.vector 2 rows;
    }
