use Rattle.std.proofs.Common.{◌≡◌, ◌≤◌}
use Rattle.std.specs.Prelude.{vec_len, vec_capacity}
use Rattle.survey_run.proofs.script_run.make_flags.Given as goal

abbrev pub invariant-loop-made : goal.invariant-loop-made
invariant-loop-made l = record {
  many : vec_len l.flags ≡ l._made;
  room : l.count ≤ vec_capacity l.flags;
}
