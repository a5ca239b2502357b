use Rattle.std.proofs.Common.{◌≡◌, ℕ, ◌<◌, drop}
use Rattle.std.specs.Prelude.{slice_get}
use Rattle.csv.specs.Records.{fields_of}
use Rattle.ranking.proofs.alternatives.has_names.Given as goal

-- The fields so far are the names of their criteria.
abbrev pub invariant-loop-place : goal.invariant-loop-place
invariant-loop-place g l =
    (k : ℕ) → k < l.place → slice_get (drop 1 (fields_of l.row)) k ≡ slice_get ((goal.LevelNames-dyn g l.names.now).criteria l.names.now.1).names k
