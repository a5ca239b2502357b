use Rattle.std.proofs.Common.{◌≡◌, drop, take}
use Rattle.csv.specs.Records.{fields_of}
use Rattle.ranking.specs.Tables.{levels_named}
use Rattle.ranking.proofs.ReadLemmas.{levels_after}
use Rattle.ranking.proofs.alternatives.read_levels.Given as goal

-- The levels so far, and those of the texts that are left, are those of all texts.
abbrev pub invariant-loop-place : goal.invariant-loop-place
invariant-loop-place g l =
    let levels = ((goal.LevelNames-dyn g l.names.now).criteria l.names.now.1).levels in
    let texts = drop 1 (fields_of l.row) in
    levels_after (take l.place l.cells) (levels_named (drop l.place levels) (drop l.place texts)) ≡ levels_named levels texts
